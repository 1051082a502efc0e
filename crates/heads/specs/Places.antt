-- Places: the same with another cursor, with so many variables more, and with a level less; and the line of a frame.
use Rattle.std.specs.Prelude.{ℕ, ◌+◌, ◌-◌, ◌%◌, ◌<◌, List, ◌≡◌, length}
use Rattle.std.proofs.Common.{ap, ◌∙◌, arith}
use Rattle.language.specs.Limits.{byte_range}
use Rattle.language.specs.Syntax.{File}
use Rattle.language.specs.Layout.{tag_step}
use Rattle.text.specs.declared.Cursor.{Cursor}
use Rattle.index.specs.declared.Counts.{Counts}
use Rattle.index.specs.Sections.{counts_in}
use Rattle.index.specs.Indexed.{function_line, channel_line, Indexed}
use Rattle.heads.specs.declared.places.Place.{Place}

abbrev pub moved_to : Place → Cursor → Place
moved_to p c = record { at = c; levels = p.levels; line = p.line; variables = p.variables }

abbrev pub wider_by : ℕ → Place → Cursor → Place
wider_by n p c = record { at = c; levels = p.levels; line = p.line; variables = p.variables + n }

abbrev pub inside_of : Place → Cursor → Place
inside_of p c = record { at = c; levels = p.levels - 1; line = p.line; variables = p.variables }

-- the line of frame i behind the types
abbrev pub line_behind_types : List ℕ → ℕ → ℕ
line_behind_types index i = (counts_in index).types + i % tag_step

pub line-is : (index : List ℕ) (i : ℕ) {n : Counts} → n ≡ counts_in index → n.types + i % tag_step ≡ line_behind_types index i
line-is index i e = ap (λ (m : Counts). m.types + i % tag_step) e

-- in a file that was read, frame f behind the types is function f
pub function-line : {text index : List ℕ} {P : File} {f : ℕ} → Indexed text index P → f < length P.functions → line_behind_types index f ≡ function_line P f
function-line i less = omega (arith, i.counted.type_count, less, i.within.few_functions)

-- the line of channel c, and that it is that of the file
abbrev pub channel_line_of : List ℕ → ℕ → ℕ
channel_line_of index c = line_behind_types index ((counts_in index).functions + c % byte_range)

pub channel-line-is : (index : List ℕ) (c : ℕ) {n : Counts} {line : ℕ} → n ≡ counts_in index → line ≡ line_behind_types index (n.functions + c % byte_range) → line ≡ channel_line_of index c
channel-line-is index c e q = q ∙ ap (λ (m : Counts). line_behind_types index (m.functions + c % byte_range)) e

pub channel-line : {text index : List ℕ} {P : File} (c : ℕ) → Indexed text index P → c < length P.inputs + length P.nodes → channel_line_of index c ≡ channel_line P c
channel-line c i less = omega (arith, less, i.counted.type_count, i.counted.function_count, i.within.few_functions, i.within.few_inputs, i.within.few_nodes)
