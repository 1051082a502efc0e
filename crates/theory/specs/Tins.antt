-- Document 01's starred cases ("Tins to try"), with the operators on signs and on pairs of Bools, as one table and one computed fact,
-- through the definitions.
use Rattle.std.specs.Prelude.{ℕ, ◌+◌, List, [], ◌∷◌, ◌++◌, map, true, false, ◌≡◌, refl, length, get_or, replicate}
use Prim.Native.Char.{code}
use Prim.Native.String.{String, [] as empty, ◌∷◌ as ◌then◌}
use Rattle.std.proofs.Math.Option.{none, some}
use Rattle.std.proofs.Math.ListN.{get_elem? as look}
use Rattle.language.specs.Limits.{instances_most, scratch_words}
use Rattle.language.specs.Result.{Result, ok, no}
use Rattle.language.specs.Syntax.{File, Ty, Expr, ebool, eint, Op, oadd, osub, omul, olt, ole, oand, oor, eop, ecall, enil}
use Rattle.language.specs.Reader.{read_file, empty_file}
use Rattle.language.specs.Sizes.{type_at, size_of_type}
use Rattle.language.specs.Checker.{Counted, enter_at}
use Rattle.language.specs.Cells.{cells_named}
use Rattle.language.specs.Heap.{kbool, kint, Cell, leaf, cell_at}
use Rattle.language.specs.Layout.{bool_tag, cell_tag, cell_value, state_length}
use Rattle.language.specs.Evaluator.{Out, value, refused, no_channels, eval, run}
use Rattle.language.specs.Machine.{Board, Answer, Accepted, check_file, check, empty_record, start, iterate}
use Rattle.theory.specs.Opened.{reading, sizing, running}

-- ---- what a case shows, as numbers
unfoldable pub codes : String → List ℕ
codes empty = []
codes (◌then◌ c s) = code c ∷ codes s

shown : Answer → List ℕ
shown a = a.number ∷ a.frame ∷ a.bounds.heap ∷ a.bounds.env ∷ a.bounds.stack ∷ []

-- a text checked on a board of these cells, slots and calls: the answer
checked : String → ℕ → ℕ → ℕ → List ℕ
checked t cells slots calls = shown (check (codes t) (record { cells = cells; slots = slots; calls = calls }) (replicate instances_most empty_record)).answer

-- how many instances it has
instances_of : Result Accepted → List ℕ
instances_of (ok a) = length a.sizes.list ∷ []
instances_of (no n frame) = n ∷ frame ∷ []

-- of the file of a text
from_file : String → (File → List ℕ) → List ℕ
from_file t f = elim (read_file (codes t)) [ ok P ↦ f P | no n frame ↦ n ∷ frame ∷ [] ]

numbers_of : Ty → Result Counted → List ℕ
numbers_of τ (ok q) = size_of_type τ ∷ q.numbers.env ∷ q.numbers.heap ∷ q.numbers.stack ∷ []
numbers_of τ (no n frame) = n ∷ frame ∷ []

-- a function at the sizes of its named arguments: result, environment, heap, stack
instance : ℕ → List ℕ → File → List ℕ
instance g ks P = elim (look P.functions g) [ some F ↦ elim (type_at ks F.result) [ some τ ↦ numbers_of τ (enter_at P instances_most instances_most 0 g F ks τ []) | none ↦ [] ] | none ↦ [] ]

-- the Bool or Int that an operator gives: what its cell is, and which
constant : Cell → List ℕ
constant c = cell_tag c ∷ cell_value c ∷ []

result_of : Out → List ℕ
result_of (value l h) = constant (cell_at h l)
result_of (refused n) = []

operated : Op → Expr → Expr → List ℕ
operated o a b = result_of (eval empty_file (run empty_file 3 0) 3 no_channels (eop o a b) [] 0 [])

-- -1 in two's complement
minus_one : Expr
minus_one = eint 4294967295

-- an operator on all four pairs of Bools
on_pairs : Op → List ℕ
on_pairs o = operated o (ebool false) (ebool false) ++ operated o (ebool false) (ebool true) ++ operated o (ebool true) (ebool false) ++ operated o (ebool true) (ebool true)

-- the value of the second channel after a start and one line
second_value : List ℕ → List ℕ
second_value ws = get_or ws (state_length (get_or ws 2 0) + 1) 0 ∷ []

after_line : String → String → List ℕ
after_line t line =
    let b : Board = record { cells = 30; slots = 1; calls = 0 } in
    let scratch : List ℕ = replicate scratch_words 0 in
    let s = start (codes t) b (replicate instances_most empty_record) (replicate (state_length 30) 0) scratch (0 ∷ []) in
    second_value (iterate (codes t) b s.state scratch (0 ∷ []) (codes line)).state

-- ---- texts
-- listing 3 whole, with `search(v, ..)` for its misprinted x: insert, search and tail are functions 0, 1 and 2
listing3 : String
listing3 = "010200020102\n02020102000200030200010101010100020001001A001201020003020001011B030200010119000112001900001900011202180012001203\n02020102000001010100020001001A001201001000161703120012021001180112001203\n0201020002000402000101010101000402000101001A001200020004020001011B04020001011900001202\n03001000\n03011100000000\n040200051B01051900001613001B010519000113011900001C0414021800130112001800130118021402\n04001000180113011402\n"

-- that list of size 5, adjusted to 4
lowered : String
lowered = "010200020102\n040200041B01041B01051900001400\n"

-- an input list of size 5 at most: 1 where it fits 4, else 2
fitting : String
fitting = "010200020102\n030200051B0105190000\n040111000000001C04130011000000011100000002\n"

-- ---- the table
record Tin : Type 0 where
  got : List ℕ
  want : List ℕ

tins : List Tin
tins =
    -- `insert` at sizes 1, 2, 4; `tail` and `search` at 5
    record { got = from_file listing3 (instance 0 (1 ∷ [])); want = 2 ∷ 0 ∷ 2 ∷ 0 ∷ [] }
    ∷ record { got = from_file listing3 (instance 0 (2 ∷ [])); want = 3 ∷ 4 ∷ 3 ∷ 1 ∷ [] }
    ∷ record { got = from_file listing3 (instance 0 (4 ∷ [])); want = 5 ∷ 12 ∷ 5 ∷ 3 ∷ [] }
    ∷ record { got = from_file listing3 (instance 2 (5 ∷ [])); want = 4 ∷ 2 ∷ 1 ∷ 0 ∷ [] }
    ∷ record { got = from_file listing3 (instance 1 (5 ∷ [])); want = 0 ∷ 16 ∷ 5 ∷ 4 ∷ [] }
    -- listing 3: heap 25, environment 18, stack 5, ten instances
    ∷ record { got = checked listing3 25 18 5; want = 0 ∷ 0 ∷ 25 ∷ 18 ∷ 5 ∷ [] }
    ∷ record { got = instances_of (check_file (codes listing3) true); want = 10 ∷ [] }
    ∷ record { got = checked listing3 24 18 5; want = 15 ∷ 0 ∷ 25 ∷ 18 ∷ 5 ∷ [] }
    ∷ record { got = checked listing3 25 17 5; want = 16 ∷ 0 ∷ 25 ∷ 18 ∷ 5 ∷ [] }
    ∷ record { got = checked listing3 25 18 4; want = 17 ∷ 0 ∷ 25 ∷ 18 ∷ 5 ∷ [] }
    -- cells of that list at 1 and 5
    ∷ record { got = from_file listing3 (λ P. cells_named P 0 1 ∷ cells_named P 0 5 ∷ []); want = 1 ∷ 9 ∷ [] }
    -- 2147483647 + 1 = −2147483648, in two's complement; 65536 × 65536 = 0
    ∷ record { got = operated oadd (eint 2147483647) (eint 1); want = constant (leaf (kint 2147483648)) }
    ∷ record { got = operated omul (eint 65536) (eint 65536); want = constant (leaf (kint 0)) }
    -- −1 < 0; not 0 < −1; −2147483648 ≤ 2147483647; 0 − 1 = −1; −1 × −1 = 1
    ∷ record { got = operated olt minus_one (eint 0); want = constant (leaf (kbool true)) }
    ∷ record { got = operated olt (eint 0) minus_one; want = constant (leaf (kbool false)) }
    ∷ record { got = operated ole (eint 2147483648) (eint 2147483647); want = constant (leaf (kbool true)) }
    ∷ record { got = operated osub (eint 0) (eint 1); want = constant (leaf (kint 4294967295)) }
    ∷ record { got = operated omul minus_one minus_one; want = constant (leaf (kint 1)) }
    -- and, or
    ∷ record { got = on_pairs oand; want = bool_tag ∷ 0 ∷ bool_tag ∷ 0 ∷ bool_tag ∷ 0 ∷ bool_tag ∷ 1 ∷ [] }
    ∷ record { got = on_pairs oor; want = bool_tag ∷ 0 ∷ bool_tag ∷ 1 ∷ bool_tag ∷ 1 ∷ bool_tag ∷ 1 ∷ [] }
    -- document 02, R-2: a right side that would be refused, a call where none is left, after a left side that decides and one that does not
    ∷ record { got = operated oand (ebool false) (ecall 0 enil); want = constant (leaf (kbool false)) }
    ∷ record { got = operated oor (ebool true) (ecall 0 enil); want = constant (leaf (kbool true)) }
    ∷ record { got = operated oand (ebool true) (ecall 0 enil) ++ operated oor (ebool false) (ecall 0 enil); want = [] }
    -- adj from 5 to 4; fit to 4: size 4 passes, size 5 takes the other arm
    ∷ record { got = checked lowered 25 18 5; want = 11 ∷ 2 ∷ 0 ∷ 0 ∷ 0 ∷ [] }
    ∷ record { got = after_line fitting "05190001110000000119000111000000021900011100000003190000\n"; want = 1 ∷ [] }
    ∷ record { got = after_line fitting "051900011100000001190001110000000219000111000000031900011100000004190000\n"; want = 2 ∷ [] }
    ∷ []

all-tins : map (λ (t : Tin). t.got) tins ≡ map (λ (t : Tin). t.want) tins
unfolding reading sizing running codes shown checked instances_of from_file numbers_of instance constant result_of operated minus_one on_pairs second_value after_line listing3 lowered fitting tins
all-tins = refl
