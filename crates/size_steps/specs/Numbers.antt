-- The numbers of each form from those of its parts, as the code works them out: each step by its promise, and the answer.
use Rattle.std.specs.Prelude.{Ok}
use Rattle.size_steps.specs.Outcomes.{Sizing}
use Rattle.std.specs.Prelude.{ℕ, ◌≡◌}
use Rattle.text.specs.declared.Cursor.{Cursor}
use Rattle.language.specs.Estimate.{nothing, one_cell, after, either, with_slots, in_call}
use Rattle.estimate.specs.declared.Estimate.{Estimate}
use Rattle.estimate.specs.Stands.{Makes, Changes, Combines}
use Rattle.sizes.specs.declared.SizedType.{SizedType}
use Rattle.sizes.specs.declared.SizedType.TheVariants.{Named}
use Rattle.size_steps.specs.declared.Site.{Site}
use Rattle.size_steps.specs.declared.Checked.{Checked}
use Rattle.size_steps.specs.declared.Counted.{Counted}
use Rattle.size_steps.specs.Leaves.{OperatorType}

-- b with other numbers
abbrev pub counted_as : Checked → Estimate → Sizing
counted_as b numbers = Ok (record { ty = b.ty; numbers = numbers; next = b.next; used = b.used })

abbrev pub adjusted_to : ℕ → ℕ → Checked → Sizing
adjusted_to t k a = Ok (record { ty = Named t k; numbers = a.numbers; next = a.next; used = a.used })

pub record LetNumbers (a b : Checked) (r : Sizing) : Type 0 where
  pub slots : Estimate
  pub numbers : Estimate
  pub held : Changes (with_slots 1) b.numbers slots
  pub all : Combines after a.numbers slots numbers
  pub is : r ≡ counted_as b numbers

pub record IfNumbers (a b d : Checked) (r : Sizing) : Type 0 where
  pub arms : Estimate
  pub numbers : Estimate
  pub both : Combines either b.numbers d.numbers arms
  pub all : Combines after a.numbers arms numbers
  pub is : r ≡ counted_as d numbers

pub record OpNumbers (o : ℕ) (a b : Checked) (r : Sizing) : Type 0 where
  pub ty : SizedType
  pub operands : Estimate
  pub cell : Estimate
  pub numbers : Estimate
  pub typed : OperatorType o ty
  pub both : Combines after a.numbers b.numbers operands
  pub one : Makes one_cell cell
  pub all : Combines after operands cell numbers
  pub is : r ≡ Ok (record { ty = ty; numbers = numbers; next = b.next; used = b.used })

pub record CallNumbers (n : ℕ) (a : Counted) (b : Checked) (r : Sizing) : Type 0 where
  pub inner : Estimate
  pub sequence : Estimate
  pub numbers : Estimate
  pub body : Changes in_call b.numbers inner
  pub both : Combines after a.numbers inner sequence
  pub all : Changes (with_slots n) sequence numbers
  pub is : r ≡ counted_as b numbers

pub record CaseNumbers (a b : Checked) (r : Sizing) : Type 0 where
  pub numbers : Estimate
  pub all : Combines after a.numbers b.numbers numbers
  pub is : r ≡ counted_as b numbers

pub record EitherNumbers (a b : Checked) (r : Sizing) : Type 0 where
  pub numbers : Estimate
  pub all : Combines either a.numbers b.numbers numbers
  pub is : r ≡ counted_as b numbers

pub record LargerNumbers (all a r : Checked) : Type 0 where
  pub numbers : Estimate
  pub both : Combines either all.numbers a.numbers numbers
  pub is : r ≡ record { ty = all.ty; numbers = numbers; next = a.next; used = a.used }

pub record SlotNumbers (n : ℕ) (all : Checked) (r : Sizing) : Type 0 where
  pub numbers : Estimate
  pub held : Changes (with_slots n) all.numbers numbers
  pub is : r ≡ counted_as all numbers

pub record FitNumbers (a b d : Checked) (r : Sizing) : Type 0 where
  pub slots : Estimate
  pub arms : Estimate
  pub numbers : Estimate
  pub held : Changes (with_slots 1) b.numbers slots
  pub both : Combines either slots d.numbers arms
  pub all : Combines after a.numbers arms numbers
  pub is : r ≡ counted_as d numbers

-- ---- parts one after the other
-- none so far
pub record NoneCounted (next : Cursor) (used : ℕ) (r : Counted) : Type 0 where
  pub numbers : Estimate
  pub none : Makes nothing numbers
  pub is : r ≡ record { numbers = numbers; next = next; used = used }

-- those so far and one more
pub record Joins (all : Counted) (a : Checked) (r : Counted) : Type 0 where
  pub numbers : Combines after all.numbers a.numbers r.numbers
  pub next : r.next ≡ a.next
  pub used : r.used ≡ a.used

-- those so far and one that takes nothing
abbrev pub passed_to : Counted → Cursor → Counted
passed_to all next = record { numbers = all.numbers; next = next; used = all.used }

-- nothing so far
pub record NothingYet (ty : SizedType) (p : Site) (r : Checked) : Type 0 where
  pub numbers : Estimate
  pub none : Makes nothing numbers
  pub is : r ≡ record { ty = ty; numbers = numbers; next = p.place.at; used = p.used }
