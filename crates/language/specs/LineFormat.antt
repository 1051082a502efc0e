-- How an input line is spelled: document 01, "`05` and one value an input (`10`, `11`, `19`)", the bytes as in the rule file.
-- It is a total function of the trees; which of them a file allows is said by their types.
use Rattle.std.specs.Prelude.{ℕ, List, [], ◌∷◌, ◌++◌}
use Rattle.language.specs.Codes.{kind_input_line, expr_bool, expr_int, expr_construct}
use Rattle.language.specs.Format.{spell_all, bit, int_bytes, line_text}
use Rattle.language.specs.Heap.{kbool, kint, Tree, vleaf, vcon, Trees, vnil, vcons}

unfoldable mutual
  pub value_bytes : Tree → List ℕ
  value_bytes (vleaf (kbool b)) = expr_bool ∷ bit b ∷ []
  value_bytes (vleaf (kint n)) = expr_int ∷ int_bytes n
  value_bytes (vcon t c ws) = expr_construct ∷ t ∷ c ∷ values_bytes ws

  pub values_bytes : Trees → List ℕ
  values_bytes vnil = []
  values_bytes (vcons w ws) = value_bytes w ++ values_bytes ws

abbrev pub input_text : List Tree → List ℕ
input_text vs = line_text (kind_input_line ∷ spell_all value_bytes vs)
