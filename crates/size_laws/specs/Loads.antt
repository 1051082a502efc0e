-- The measure of the cycle: the instances left first, then the levels left, then the place in the cycle (its rank). And the room that
-- each call finds.
use Rattle.std.specs.Prelude.{Ok}
use Rattle.size_steps.specs.Outcomes.{Sizing}
use Rattle.std.specs.Prelude.{ℕ, suc, ◌+◌, ◌*◌, ◌-◌, ◌≤◌, ◌<◌, ◌^◌, List, ◌≡◌}
use Rattle.std.proofs.Math.Path.{ap}
use Rattle.std.proofs.Common.{arith}
use Rattle.language.specs.Limits.{byte_range, instances_most}
use Rattle.text.specs.declared.Cursor.{Cursor}
use Rattle.size_steps.specs.declared.Site.{Site}
use Rattle.size_steps.specs.declared.Checked.{Checked}
use Rattle.size_steps.specs.declared.Entry.{Entry}
use Rattle.size_steps.specs.Sites.{moved_on_of, down_to, widened_by, Room}
use Rattle.size_steps.specs.Agreement.{Grows, grows-to}
use Rattle.size_steps.specs.Leaves.{body_of, Entered}

-- ranks are below this, and a whole body is below an instance
abbrev pub level_load : ℕ
level_load = 2 ^ 10

abbrev pub instance_load : ℕ
instance_load = 2 ^ 16

unfoldable pub load : Site → ℕ → ℕ
load p rank = (instances_most - p.used) * instance_load + (p.place.levels * level_load + rank)

module _ (p : Site) (rank : ℕ) {t : ℕ} (is : load p rank ≡ t) where
  -- the same place
  pub load_same : (lower : ℕ) → lower < rank → load p lower < t
  unfolding load
  load_same lower less = omega (arith, is, less)

  -- behind a part
  pub load_moved : (q : Site) {at : Cursor} {used : ℕ} (lower : ℕ) → q ≡ moved_on_of p at used → p.used ≤ used → lower < rank → load q lower < t
  unfolding load
  load_moved q lower e le less = omega (arith, is, less, le, ap (λ z. z.used) e, ap (λ z. z.place.levels) e)

  -- under more variables
  pub load-wide : (m q : Site) {at : Cursor} {used : ℕ} (v s lower : ℕ) → m ≡ moved_on_of p at used → q ≡ widened_by m v s → p.used ≤ used → lower < rank → load q lower < t
  unfolding load
  load-wide m q v s lower e w le less = omega (arith, is, less, le, ap (λ z. z.used) e, ap (λ z. z.place.levels) e, ap (λ z. z.used) w, ap (λ z. z.place.levels) w)

  -- one level down
  pub load-down : (q : Site) {at : Cursor} (lower : ℕ) → q ≡ down_to p at → 0 < p.place.levels → lower < level_load → load q lower < t
  unfolding load
  load-down q lower e some less = omega (arith, is, less, some, ap (λ z. z.used) e, ap (λ z. z.place.levels) e)

  -- into a body
  pub load-body : (index : List ℕ) (e : Entry) (q : Site) → q ≡ body_of index p e → p.used < instances_most → load q 0 < t
  unfolding load
  load-body index e q is' less = omega (arith, is, less, ap (λ z. z.used) is', ap (λ z. z.place.levels) is')

-- ---- room
module _ {deep : ℕ} {p : Site} (r : Room deep p) where
  room_moved : {q : Site} {at : Cursor} {used : ℕ} (deep' : ℕ) → q ≡ moved_on_of p at used → p.place.levels ≤ deep' → deep' ≤ deep → Room deep' q
  room_moved {q} deep' e under le = record {
    levels = omega (arith, r.levels, le);
    under = omega (arith, under, ap (λ z. z.place.levels) e);
    line = omega (arith, r.line, ap (λ z. z.place.line) e);
    variables = omega (arith, r.variables, le, ap (λ z. z.place.variables) e);
    sizes = omega (arith, r.sizes, le, ap (λ z. z.sizes) e);
  }

  -- the same site, one level to be counted less
  pub room-same : p.place.levels ≤ deep → Room p.place.levels p
  room-same under = record {
    levels = omega (arith, r.levels, under);
    under = omega arith;
    line = r.line;
    variables = omega (arith, r.variables, under);
    sizes = omega (arith, r.sizes, under);
  }

  -- more variables can be counted
  pub room-widens : {m : Site} {at : Cursor} {used v s : ℕ} → m ≡ moved_on_of p at used → v < byte_range → s < byte_range → (m.place.variables + v < 2 ^ 32) × (m.sizes + s < 2 ^ 32)
  room-widens {m} e few fewer = (omega (arith, r.variables, few, ap (λ z. z.place.variables) e), omega (arith, r.sizes, fewer, ap (λ z. z.sizes) e))

  -- one level down: inside a form
  pub room-down : {q : Site} {at : Cursor} → q ≡ down_to p at → 0 < p.place.levels → p.place.levels ≡ deep → Room (suc q.place.levels) q
  room-down {q} e some same = record {
    levels = omega (arith, r.levels, some, same, ap (λ z. z.place.levels) e);
    under = omega arith;
    line = omega (arith, r.line, ap (λ z. z.place.line) e);
    variables = omega (arith, r.variables, some, same, ap (λ z. z.place.levels) e, ap (λ z. z.place.variables) e);
    sizes = omega (arith, r.sizes, some, same, ap (λ z. z.place.levels) e, ap (λ z. z.sizes) e);
  }

-- under more variables, from inside a form
pub room-wide : {p m q : Site} {at : Cursor} {used v s : ℕ} → Room (suc p.place.levels) p → m ≡ moved_on_of p at used → q ≡ widened_by m v s → v < byte_range → s < byte_range → Room q.place.levels q
room-wide {p} {m} {q} r e w few fewer = record {
  levels = omega (arith, r.levels, ap (λ z. z.place.levels) e, ap (λ z. z.place.levels) w);
  under = omega arith;
  line = omega (arith, r.line, ap (λ z. z.place.line) e, ap (λ z. z.place.line) w);
  variables = omega (arith, r.variables, few, ap (λ z. z.place.levels) e, ap (λ z. z.place.levels) w, ap (λ z. z.place.variables) e, ap (λ z. z.place.variables) w);
  sizes = omega (arith, r.sizes, fewer, ap (λ z. z.place.levels) e, ap (λ z. z.place.levels) w, ap (λ z. z.sizes) e, ap (λ z. z.sizes) w);
}

-- behind a part: an expression, and the rest of a form
module _ {p q : Site} {at : Cursor} {used : ℕ} (r : Room (suc p.place.levels) p) (e : q ≡ moved_on_of p at used) where
  pub room-behind : Room q.place.levels q
  room-behind = room_moved r q.place.levels e (omega (arith, ap (λ z. z.place.levels) e)) (omega (arith, ap (λ z. z.place.levels) e))

  pub room-rest : Room (suc q.place.levels) q
  room-rest = room_moved r (suc q.place.levels) e (omega (arith, ap (λ z. z.place.levels) e)) (omega (arith, ap (λ z. z.place.levels) e))

-- ---- instances grow from part to part
pub grows-behind : (p : Site) {q : Site} {at : Cursor} {used : ℕ} {y : Sizing} {b : Checked} → p.used ≤ used → q ≡ moved_on_of p at used → Grows q.used y → y ≡ Ok b → p.used ≤ b.used
grows-behind p {q} le e g d = omega (arith, le, ap (λ z. z.used) e, grows-to g d)

pub grows-wide : (p : Site) {m q : Site} {at : Cursor} {used : ℕ} (v s : ℕ) {y : Sizing} {b : Checked} → p.used ≤ used → m ≡ moved_on_of p at used → q ≡ widened_by m v s → Grows q.used y → y ≡ Ok b → p.used ≤ b.used
grows-wide p {m} {q} v s le e w g d = omega (arith, le, ap (λ z. z.used) e, ap (λ z. z.used) w, grows-to g d)

-- ---- into a body, whose scope starts anew
pub room-body : (p : Site) {q : Site} (index : List ℕ) {e : Entry} → Entered e → q ≡ body_of index p e → Room q.place.levels q
room-body p {q} index n is = record {
  levels = omega (arith, ap (λ z. z.place.levels) is);
  under = omega arith;
  line = omega (arith, ap (λ z. z.place.line) is);
  variables = omega (arith, n.variables, ap (λ z. z.place.variables) is, ap (λ z. z.place.levels) is);
  sizes = omega (arith, n.sizes, ap (λ z. z.sizes) is, ap (λ z. z.place.levels) is);
}
