-- The three numbers of figure 7: environment, heap and stack. They are exact here; what is reported stops at 65,535.
use Rattle.std.specs.Prelude.{ℕ, ◌+◌, max, min}
use Rattle.language.specs.Limits.{number_most}

pub record Estimate : Type 0 where
  pub env : ℕ
  pub heap : ℕ
  pub stack : ℕ

abbrev pub nothing : Estimate
nothing = record { env = 0; heap = 0; stack = 0 }

-- one new cell
abbrev pub one_cell : Estimate
one_cell = record { env = 0; heap = 1; stack = 0 }

-- a, and then b
abbrev pub after : Estimate → Estimate → Estimate
after a b = record { env = max a.env b.env; heap = a.heap + b.heap; stack = max a.stack b.stack }

-- a or b: the larger of each
abbrev pub either : Estimate → Estimate → Estimate
either a b = record { env = max a.env b.env; heap = max a.heap b.heap; stack = max a.stack b.stack }

-- with n slots held
abbrev pub with_slots : ℕ → Estimate → Estimate
with_slots n a = record { env = n + a.env; heap = a.heap; stack = a.stack }

-- inside a call
abbrev pub in_call : Estimate → Estimate
in_call a = record { env = a.env; heap = a.heap; stack = 1 + a.stack }

-- "Reported numbers stop at 65,535."
abbrev pub stop : ℕ → ℕ
stop n = min n number_most

abbrev pub stopped : Estimate → Estimate
stopped a = record { env = stop a.env; heap = stop a.heap; stack = stop a.stack }
