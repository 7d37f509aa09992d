-- What `add` is refused for, one step after the other, and what is known where it is not.
use Rattle.std.specs.Prelude.{◌≡◌, ℕ, List, [], ◌∷◌, ◌++◌, true, Option, Some, None}
use Rattle.std.proofs.Common.{ap, ◌∙◌}
use Rattle.mk_net.specs.Firsts.{first_of}
use Rattle.mk_net.specs.Network.{Variable}
use Rattle.mk_net.specs.Additions.{variable_of_addition}
use Rattle.mk_net.specs.declared.addition.Addition.{Addition as Extension}
use Rattle.mk_exact.specs.History as history
use Rattle.mk_exact.specs.History.{Entry}
use Rattle.mk_exact.specs.Market.{Market}
use Rattle.mk_addition.specs.declared.add.AddText.{AddText}
use Rattle.mk_command.specs.declared.command.Command.TheVariants.{Add}
use Rattle.mk_reply.specs.declared.refusal.Refusal.{Refusal}
use Rattle.mk_rules.specs.Refusals.{settled, value_twice, twice, ranges, least_share}
use Rattle.mk_rules.specs.Refusals.{refusals, first_refusal}
use Rattle.mk_rules.specs.Additions.{variables_full, taken, nobody_named, no_link, uncovered}
use Rattle.mk_rules.specs.Additions.{not_running, row_count, row_width, most_share, shares_of}
use Rattle.mk_rules.specs.Additions.{row_sum, too_large, is_among, added_variable, addition_of}
use Rattle.mk_rules.proofs.Unrefused.{none_applies}
use Rattle.mk_rules.proofs.Additions.{extension_of}
use Rattle.mk_history.specs.declared.entry.AddedQuestion.{AddedQuestion}
use Rattle.mk_history.specs.Entries.{addition_of as added_by}
use Rattle.mk_record.proofs.Refusing.{passed}
use Rattle.mk_record.proofs.SpreadRefusals.{front_applies, front_passed}
use Rattle.mk_admission.proofs.AddedCliques.{own_is_covered}

module _ (market : Market) (H : List Entry) (add : AddText) where
  -- its names
  abbrev naming : List (Option Refusal)
  naming =
      variables_full market.network ∷ taken market.network add.variable
      ∷ value_twice add.values.items ∷ nobody_named market.network [] add.parents.items
      ∷ nobody_named market.network (add.variable ∷ []) add.clique.items
      ∷ twice add.parents.items ∷ twice add.clique.items ∷ []

  -- its clique
  abbrev placing : List (Option Refusal)
  placing =
      no_link market.cliques add.link ∷ uncovered add ∷ not_running market add ∷ []

  -- its rows
  abbrev sharing : List (Option Refusal)
  sharing =
      row_count market.network add ∷ row_width add
      ∷ ranges (least_share market) (most_share market) (shares_of add) ∷ row_sum add ∷ []

  -- its cells
  abbrev counting : List (Option Refusal)
  counting = too_large market add ∷ []

  pub badly_named : (why : Refusal) → None ≡ settled H → Some why ≡ first_of naming
      → Some why ≡ first_refusal market H (Add add)
  badly_named why a h =
      passed (settled H) (naming ++ placing ++ sharing ++ counting) (Some why) a
      (front_applies naming (placing ++ sharing ++ counting) why h)

  pub badly_placed : (why : Refusal) → None ≡ settled H → None ≡ first_of naming
      → Some why ≡ first_of placing → Some why ≡ first_refusal market H (Add add)
  badly_placed why a b h =
      passed (settled H) (naming ++ placing ++ sharing ++ counting) (Some why) a
      (front_passed naming (placing ++ sharing ++ counting) (Some why) b
      (front_applies placing (sharing ++ counting) why h))

  pub badly_shared : (why : Refusal) → None ≡ settled H → None ≡ first_of naming
      → None ≡ first_of placing → Some why ≡ first_of sharing
      → Some why ≡ first_refusal market H (Add add)
  badly_shared why a b c h =
      passed (settled H) (naming ++ placing ++ sharing ++ counting) (Some why) a
      (front_passed naming (placing ++ sharing ++ counting) (Some why) b
      (front_passed placing (sharing ++ counting) (Some why) c
      (front_applies sharing counting why h)))

  -- where nothing refuses it, its name is new, and its clique holds it
  pub unrefused_name : first_refusal market H (Add add) ≡ None
      → (taken market.network add.variable ≡ None)
      × (is_among add.clique.items add.variable ≡ true)
  unrefused_name h =
      let none = none_applies (refusals market H (Add add)) h in
      (none.1.1.0, own_is_covered add none.1.1.1.1.1.1.1.1.1.0)

-- what is added extends the network as the rules say
pub extension_is : (network : List Variable) (add : AddText) (question : AddedQuestion)
    → added_by question ≡ addition_of network add
    → question.addition ≡ extension_of network add
extension_is network add question e =
    let v : variable_of_addition question.addition ≡ added_variable network add =
    ap (λ (a : history.Addition). a.variable) e in
    alike question.addition (extension_of network add) (ap (λ (w : Variable). w.name) v)
    (ap (λ (w : Variable). w.values) v) (ap (λ (w : Variable). w.parents) v)
    (ap (λ (w : Variable). w.rows) v)
  where
    alike : (a b : Extension) → a.variable ≡ b.variable → a.values.items ≡ b.values.items
        → a.parents.items ≡ b.parents.items → a.rows.items ≡ b.rows.items → a ≡ b
    alike a b name values parents rows =
        ap (λ n. made n a.values.items a.parents.items a.rows.items) name
        ∙ ap (λ vs. made b.variable vs a.parents.items a.rows.items) values
        ∙ ap (λ ps. made b.variable b.values.items ps a.rows.items) parents
        ∙ ap (λ rs. made b.variable b.values.items b.parents.items rs) rows
      where
        made : List ℕ → List (List ℕ) → List ℕ → List (List ℕ) → Extension
        made n vs ps rs = record {
          variable = n;
          values = record { items = vs };
          parents = record { items = ps };
          rows = record { items = rs };
        }
