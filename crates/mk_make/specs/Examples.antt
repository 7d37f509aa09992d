-- Lines of the smallest sample, as they are written.
use Rattle.std.specs.Prelude.{◌≡◌, codes}
use Rattle.mk_make.specs.Sample.{cliques_line, links_line, edits_of, edit_line}

-- two variables have one clique together, which is linked to none
pub record HasOneClique : Type 0 where
  pub cliques : cliques_line 2 ≡ codes "cliques = [[\"v1\", \"v2\"]]\n"
  pub links : links_line 2 ≡ codes "links = []\n"

pub record HasFiveEdits : Type 0 where
  pub five : edits_of 2 ≡ 5
  pub first : edit_line 2 1 ≡ codes "edit u1 v2=yes | v1=yes to 237123\n"
  pub second : edit_line 2 2 ≡ codes "edit u2 v1=yes to 274246\n"
  pub third : edit_line 2 3 ≡ codes "edit u3 v2=yes | v1=yes to 311369\n"
  pub fourth : edit_line 2 4 ≡ codes "edit u4 v1=yes to 348492\n"
  pub fifth : edit_line 2 5 ≡ codes "edit u5 v2=yes | v1=yes to 385615\n"
