-- Places: the same with another cursor and so many cells used, with more in the environment, in the body of a function.
use Rattle.std.specs.Prelude.{ℕ, ◌+◌, ◌-◌, List}
use Rattle.text.specs.declared.Cursor.{Cursor}
use Rattle.heads.specs.Places.{line_behind_types}
use Rattle.index.specs.Sections.{functions_of}
use Rattle.index.specs.Indexed.{body_at}
use Rattle.evaluation_steps.specs.declared.Context.{Context}

abbrev pub moved_to : Context → Cursor → ℕ → Context
moved_to p c used = record { at = c; line = p.line; top = p.top; used = used; calls = p.calls }

abbrev pub bound_to : Context → Cursor → ℕ → Context
bound_to p c n = record { at = c; line = p.line; top = p.top + n; used = p.used; calls = p.calls }

abbrev pub body_context : List ℕ → Context → ℕ → ℕ → Context
body_context index p f n = record { at = record { at = body_at (functions_of index) f }; line = line_behind_types index f; top = n; used = p.used; calls = p.calls - 1 }
