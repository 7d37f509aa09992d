-- The pieces in which the parts of the market file are written.
use Rattle.std.proofs.Common.{◌≡◌, ap, ◌∙◌, ℕ, ◌-◌, List, [], ◌++◌, map, codes, decimal, append_assoc}
use Rattle.std.proofs.lemmas.List.{append-nil}
use Rattle.std.proofs.lemmas.Bool.{ne_eqb}
use Rattle.mk_make.specs.Lines.{joined, numbers_to}
use Rattle.mk_make.specs.Sample.{quoted_name, clique_of, cliques_line, dependence_lines, variable_part}

-- what stands after texts were written one after another
pub three_pieces : (out first second third a b c : List ℕ) →
    first ≡ out ++ a → second ≡ first ++ b → third ≡ second ++ c → third ≡ out ++ (a ++ (b ++ c))
three_pieces out first second third a b c e f g = rw (g, f, e) (simp append_assoc)

pub four_pieces : (out first second third last a b c d : List ℕ) →
    first ≡ out ++ a → second ≡ first ++ b → third ≡ second ++ c → last ≡ third ++ d → last ≡ out ++ (a ++ (b ++ (c ++ d)))
four_pieces out first second third last a b c d e f g h = rw (h, g, f, e) (simp append_assoc)

ends_line : (text end : List ℕ) → (text ++ []) ++ end ≡ text ++ end
ends_line text end = ap (λ (t : List ℕ). t ++ end) (append-nil text)

ends_item : (text close end : List ℕ) → ((text ++ close) ++ []) ++ end ≡ text ++ (close ++ end)
ends_item text close end = ends_line (text ++ close) end ∙ append_assoc text close end

line_goes_on : (text close end rest : List ℕ) → (((text ++ close) ++ []) ++ end) ++ rest ≡ (text ++ close) ++ (end ++ rest)
line_goes_on text close end rest =
    ap (λ (t : List ℕ). t ++ rest) (ends_line (text ++ close) end) ∙ append_assoc (text ++ close) end rest

list_goes_on : (text quote close end rest : List ℕ) →
    (((((text ++ quote) ++ []) ++ close) ++ []) ++ end) ++ rest ≡ (text ++ quote) ++ ((close ++ end) ++ rest)
list_goes_on text quote close end rest =
    ap (λ (t : List ℕ). t ++ rest) (ends_item ((text ++ quote) ++ []) close end ∙ ends_line (text ++ quote) (close ++ end))
    ∙ append_assoc (text ++ quote) (close ++ end) rest

pub cliques_pieces : (n : ℕ) →
    cliques_line n ≡ codes "cliques = [" ++ (joined (codes ", ") (map clique_of (numbers_to (n - 1))) ++ codes "]\n")
unfolding cliques_line
cliques_pieces n =
    ap (λ (t : List ℕ). codes "cliques = [" ++ t) (ends_item (joined (codes ", ") (map clique_of (numbers_to (n - 1)))) (codes "]") (codes "\n"))

pub part_pieces : (i : ℕ) → variable_part i ≡
    codes "\n[[variable]]\nname = " ++ (quoted_name i ++ (codes "\nvalues = [\"no\", \"yes\"]\n" ++ dependence_lines i))
unfolding variable_part
part_pieces i =
    ap (λ (t : List ℕ). codes "\n[[variable]]\nname = \"v" ++ t)
    (line_goes_on (decimal i) (codes "\"") (codes "\n") (codes "values = [\"no\", \"yes\"]\n" ++ dependence_lines i))

pub dependence_pieces : (i : ℕ) → (i ≡ 1 → ⊥) → dependence_lines i ≡
    codes "parents = [" ++ (quoted_name (i - 1) ++ codes "]\nrows = [[700000, 300000], [200000, 800000]]\n")
unfolding dependence_lines
dependence_pieces i h = rw (ne_eqb i 1 h)
    (ap (λ (t : List ℕ). codes "parents = [\"v" ++ t)
    (list_goes_on (decimal (i - 1)) (codes "\"") (codes "]") (codes "\n") (codes "rows = [[700000, 300000], [200000, 800000]]\n")))
