-- A Bool, an Int, a named type.
use native.Mathlib.Omega.{arith}
use Rattle.std.proofs.Common.{◌∙◌}
use borrow.Author.Rules.{rules}
use Rattle.cell_check.specs.FieldLaws.{type-bool, type-int, type-named, type-none}
use Rattle.cell_check.proofs.type_fits.Goals as goal

pub returns-in-0 : goal.returns-in-0
returns-in-0 c = type-bool _ _ _ c.in-0.is

pub returns-in-1 : goal.returns-in-1
returns-in-1 c = type-int _ _ _ (λ e. omega (arith, e, c.in-1.is)) c.in-1.is

pub returns-then-same_type : goal.returns-then-same_type
returns-then-same_type c = type-named _ _ _ (λ e. search rules) (λ e. search rules) c.same_type.ensures c.if-same_type.true c.word_size.ensures

pub returns-else-same_type : goal.returns-else-same_type
returns-else-same_type c = c.if-same_type.false ∙ type-none _ _ _ (λ e. search rules) (λ e. search rules) c.same_type.ensures c.if-same_type.false
