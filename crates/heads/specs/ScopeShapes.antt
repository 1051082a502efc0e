-- The index of a text that was read tells every scope of the file: what skipping an expression asks for.
use Rattle.std.specs.Prelude.{ℕ, List, length}
use Rattle.std.proofs.Common.{sym, ap, ◌∙◌, arith}
use Rattle.language.specs.Syntax.{File}
use Rattle.language.specs.Scope.{Scope}
use Rattle.encoding.specs.Known.{Known}
use Rattle.heads.specs.Skips.{Shapes}
use Rattle.index.specs.Sections.{types_of, functions_of}
use Rattle.index.specs.Indexed.{Indexed}

pub known-shapes : {text index : List ℕ} {P : File} {S : Scope} → Indexed text index P → Known P S → Shapes (types_of index) (functions_of index) S
known-shapes i k = record {
  each = λ u less. rw k.types (i.each_type u (omega (arith, less, ap length k.types))).tells;
  arities = λ f less. let g = k.functions f less in (i.each_function f g.is).tells.count ∙ sym g.arity;
  few = λ f less. let g = k.functions f less in omega (arith, g.arity, (i.each_function f g.is).tells.few);
  few_types = omega (arith, ap length k.types, i.within.few_types);
}
