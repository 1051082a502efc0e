-- The functions, then the sizes.
use Rattle.std.proofs.Common.{refl}
use borrow.Author.Tests.{eq-eqb, ne_eqb}
use Rattle.language.specs.Result.{both}
use Rattle.instance_list.specs.RecordLaws.{sizes-tested}
use Rattle.instance_list.proofs.same.Goals as goal

pub returns-then-r-key : goal.returns-then-r-key
unfolding both
returns-then-r-key c =
    let tested = sizes-tested c.args.r.sizes c.args.key.sizes in
    rw (eq-eqb _ _ c.if-r-key.true) (cc)

pub returns-else-r-key : goal.returns-else-r-key
unfolding both
returns-else-r-key c = rw (ne_eqb _ _ c.if-r-key.false) refl
