-- A frame, return by return: what the calls so far promise, the frame promises.
use Rattle.std.specs.Prelude.{Ok, Err, Option as Maybe, Some, None}
use Rattle.language.specs.declared.refusals.Refusal.{Refusal}
use Rattle.language.specs.declared.refusals.Refusal.TheVariants.{BadFrame, NoBaseConstructor}
use Rattle.reader.specs.declared.frames.Kind.{Kind as CodeKind}
use Prim.Native.Nat.{ℕ, ◌*◌, ◌<◌}
use mathlib.Core.List.{List, [], ◌∷◌, ◌++◌}
use Rattle.std.specs.Prelude.{Bool, not}
use Rattle.std.proofs.Math.Bool.{true, false}
use Rattle.std.proofs.Math.Option.{Option, none, some}
use Rattle.std.proofs.Math.Path.{◌≡◌, refl, sym, ap}
use Rattle.std.proofs.Common.{◌∙◌, subst, arith}
use Rattle.std.proofs.Math.ListN.{length}
use borrow.Author.Tests.{ltb-true, not-true, not-false}
use Rattle.language.specs.Limits.{types_most, functions_most, inputs_most, nodes_most}
use Rattle.language.specs.Refusals.{bad_frame, bad_length, no_base_constructor}
use Rattle.language.specs.Result.{Result, ok, no, bind, need, from}
use Rattle.language.specs.Syntax.{TypeDef, File, self_free}
use Rattle.language.specs.Parser.{Read, got, bad, byte, decode}
use Rattle.language.specs.Reader.{type_def, function, input, node, whole, Kind, type_kind, function_kind, input_kind, node_kind, kinds, in_order_of, with_type, with_function, with_input, with_node, read_kind, read_frame}
use Rattle.theory.specs.Lists.{both_left, both_right}
use Rattle.text.specs.declared.Found.{Found}
use Rattle.text.specs.Bytes.{Number, Step, bytes_of, bytes_from, forget, ReadsNumber}
use Rattle.text.specs.declared.Cursor.{Cursor}
use Rattle.text.specs.Places.{bytes-start}
use Rattle.text.specs.StepLaws.{number-got, number-bad}
use Rattle.encoding.specs.CursorSpells.{byte-behind}
use Rattle.index.specs.Tables.{type_words, type_entry, type_table}
use Rattle.index.specs.Sections.{frames_from, types_from, frame_table_words, type_table_words, types_of}
use Rattle.index.specs.SectionLaws.{Outside, kept-before}
use Rattle.index.specs.Enters.{Enters, type_behind, SelfFree}
use Rattle.index.specs.TypeTable.{FewParts, type-def-behind, type-added, read-few, self-free-told}
use Rattle.index.specs.declared.Counts.{Counts}
use Rattle.reader.specs.Held.{Held, NoLater, ReadsFunction, ReadsInput, ReadsNode, FrameRead, taken, refused, ReadsFrame, TypeTaken}
use Rattle.reader.specs.Functions.{passes-as}
use Rattle.reader.specs.Frames.{Frame, kind_end, meant, the_kind, Ordered, ended_as, one_more_of}
use Rattle.reader.specs.OrderLaws.{nothing_left}
use Rattle.reader.specs.EndedLaws.{Ended, ended_is, ends, stops}
use Rattle.reader.specs.HeldLaws.{held-function, held-input, held-node, held-type}

-- ---- the answer of a frame, where the parser's is known
as_read : {lines : ℕ → List ℕ} {r : Frame} {index : List ℕ} {y z : Result File} → z ≡ y → FrameRead lines r index y → FrameRead lines r index z
as_read {lines} {r} {index} e u = subst (FrameRead lines r index) (sym e) u

bound : {lines : ℕ → List ℕ} {A : Type 0} {frame : ℕ} {y : Read A} {n : Counts} {x : Frame} {index : List ℕ} (k : A → File) → Ended frame y n x → ((a : A) (rest : List ℕ) → y ≡ got a rest → Held lines index n (k a)) → FrameRead lines x index (bind (whole frame y) (λ a. ok (k a)))
unfolding bind
bound k (stops e p) f = as_read (ap (λ w. bind w (λ a. ok (k a))) p) (refused e)
bound k (ends {a} {rest} e h p) f = as_read (ap (λ w. bind w (λ b. ok (k b))) p) (taken e (f a rest h))

-- ---- a type's frame
taken_refused : {B : Type 0} {n : Counts} {k : Refusal} {x : Frame} → x ≡ Ok n → x ≡ Err k → B
taken_refused e h = absurd (let same = sym e ∙ h in let z : ◌≡◌ {A = ℕ} 0 1 = cc in omega arith)

module _ (line index index' : List ℕ) (n : Counts) {start : Cursor} (begun : start.at ≡ kind_end line) {r : Step} (entered : Enters type_entry line start.at (type_words * n.types) (types_of index) r (types_of index') (type_behind n.types (bytes_from line start.at)) × Outside types_from type_table_words index index') {x : Frame} {more : Counts} (m : more ≡ one_more_of type_kind n) (e : x ≡ ended_as line r more) where
  v : Enters type_entry line (kind_end line) (type_words * n.types) (types_of index) r (types_of index') (type_behind n.types (bytes_from line (kind_end line))) × Outside types_from type_table_words index index'
  v = rw begun at entered

  type-ended : {lines : ℕ → List ℕ} {P : File} → Held lines index n P → (frame : ℕ) → Ended frame (type_def P (bytes_from line (kind_end line))) (one_more_of type_kind n) x
  type-ended {P = P} held frame = ended_is frame (type_def P (bytes_from line (kind_end line))) r (passes-as (ap forget (type-def-behind P (bytes_from line (kind_end line)) ∙ ap (λ t. type_behind t (bytes_from line (kind_end line))) held.counted.type_count)) v.0.passes) (e ∙ ap (ended_as line r) m)

  module _ {lines : ℕ → List ℕ} {P : File} (held : Held lines index n P) (few : n.types < types_most) {d : TypeDef} {rest : List ℕ} (h : type_def P (bytes_from line (kind_end line)) ≡ got d rest) where
    behind-is : type_behind n.types (bytes_from line (kind_end line)) ≡ got d rest
    behind-is = ap (λ t. type_behind t (bytes_from line (kind_end line))) (sym held.counted.type_count) ∙ sym (type-def-behind P (bytes_from line (kind_end line))) ∙ h

    type-table : types_of index' ≡ type_table (P.types ++ (d ∷ []))
    type-table = type-added P.types v.0 held.counted.type_count few held.types_are behind-is

    type-few : FewParts d
    type-few = read-few n.types (bytes_from line (kind_end line)) behind-is

  pub type-stops : {k : Refusal} → x ≡ Err k → TypeTaken line index n x index'
  unfolding read_kind bind
  type-stops no-frame = record { says = λ lines P held later frame few. by held frame (type-ended held frame); outside = v.1 }
    where
      by : {lines : ℕ → List ℕ} {P : File} → Held lines index n P → (frame : ℕ) → Ended frame (type_def P (bytes_from line (kind_end line))) (one_more_of type_kind n) x → FrameRead lines x index' (read_kind 0 frame P (bytes_from line (kind_end line)) type_kind)
      by {P = P} held frame (stops s p) = as_read (ap (λ w. bind w (λ d. need (self_free d) no_base_constructor frame (ok (with_type P d)))) p) (refused s)
      by held frame (ends s h p) = taken_refused s no-frame

  module _ {there : Counts} (yes : x ≡ Ok there) {b : Bool} (free : SelfFree (types_of index') n.types b) where
    pub type-free : b ≡ true → TypeTaken line index n x index'
    unfolding read_kind bind need
    type-free t = record { says = λ lines P held later frame few. by held later few frame (type-ended held frame); outside = v.1 }
      where
        by : {lines : ℕ → List ℕ} {P : File} → Held lines index n P → NoLater P → n.types < types_most → (frame : ℕ) → Ended frame (type_def P (bytes_from line (kind_end line))) (one_more_of type_kind n) x → FrameRead lines x index' (read_kind 0 frame P (bytes_from line (kind_end line)) type_kind)
        by held later few frame (stops s p) = taken_refused yes s
        by {P = P} held later few frame (ends {a = d} s h p) =
            let is_free : self_free d ≡ true = sym (self-free-told P.types d free (type-table held few h) held.counted.type_count few (type-few held few h)) ∙ t in
            as_read (ap (λ w. bind w (λ d. need (self_free d) no_base_constructor frame (ok (with_type P d)))) p ∙ ap (λ b. need b no_base_constructor frame (ok (with_type P d))) is_free) (taken s (held-type held d later (type-table held few h) v.1 few (type-few held few h)))

    pub type-not-free : b ≡ false → TypeTaken line index n (Err NoBaseConstructor) index'
    unfolding read_kind bind need
    type-not-free t = record { says = λ lines P held later frame few. by held later few frame (type-ended held frame); outside = v.1 }
      where
        by : {lines : ℕ → List ℕ} {P : File} → Held lines index n P → NoLater P → n.types < types_most → (frame : ℕ) → Ended frame (type_def P (bytes_from line (kind_end line))) (one_more_of type_kind n) x → FrameRead lines (Err NoBaseConstructor) index' (read_kind 0 frame P (bytes_from line (kind_end line)) type_kind)
        by held later few frame (stops s p) = taken_refused yes s
        by {P = P} held later few frame (ends {a = d} s h p) =
            let not_free : self_free d ≡ false = sym (self-free-told P.types d free (type-table held few h) held.counted.type_count few (type-few held few h)) ∙ t in
            as_read (ap (λ w. bind w (λ d. need (self_free d) no_base_constructor frame (ok (with_type P d)))) p ∙ ap (λ b. need b no_base_constructor frame (ok (with_type P d))) not_free) (refused refl)

-- ---- the kind's byte, and what the definition makes of it
first_byte : (l : List ℕ) {k : ℕ} {rest : List ℕ} → byte l ≡ got k rest → l ≡ k ∷ rest
unfolding byte
first_byte [] e = absurd (let z : ◌≡◌ {A = ℕ} 0 1 = cc in omega arith)
first_byte (b ∷ l) {k} {rest} e = let same : b ≡ k = cc in let left : l ≡ rest = cc in λ i. same i ∷ left i

no_byte : (l : List ℕ) {k : ℕ} → byte l ≡ bad k → l ≡ []
unfolding byte
no_byte [] e = refl
no_byte (b ∷ l) e = absurd (let z : ◌≡◌ {A = ℕ} 0 1 = cc in omega arith)

module _ (all frame : ℕ) (P : File) where
  frame_is : (l : List ℕ) {k : ℕ} {bs : List ℕ} → l ≡ k ∷ bs → read_frame all frame P l ≡ from (decode 0x01 kinds k) bad_frame frame (λ kind. need (in_order_of kind P) bad_frame frame (read_kind all frame P bs kind))
  unfolding read_frame
  frame_is l e = ap (read_frame all frame P) e

  no_kind : {o : Option Kind} (bs : List ℕ) → o ≡ none → from o bad_frame frame (λ kind. need (in_order_of kind P) bad_frame frame (read_kind all frame P bs kind)) ≡ no bad_frame frame
  unfolding from
  no_kind bs e = rw e

  out_of_order : {o : Option Kind} {kind : Kind} (bs : List ℕ) → o ≡ some kind → in_order_of kind P ≡ false → from o bad_frame frame (λ kind. need (in_order_of kind P) bad_frame frame (read_kind all frame P bs kind)) ≡ no bad_frame frame
  unfolding from need
  out_of_order bs e t = rw (e, t)

  in_order : {o : Option Kind} {kind : Kind} (bs : List ℕ) → o ≡ some kind → in_order_of kind P ≡ true → from o bad_frame frame (λ kind. need (in_order_of kind P) bad_frame frame (read_kind all frame P bs kind)) ≡ read_kind all frame P bs kind
  unfolding from need
  in_order bs e t = rw (e, t)

-- no byte is refused as too short
short : (l : List ℕ) {k : ℕ} → byte l ≡ bad k → k ≡ bad_length
unfolding byte
short [] e = cc
short (b ∷ l) e = absurd (let z : ◌≡◌ {A = ℕ} 0 1 = cc in omega arith)

module _ (line index : List ℕ) (n : Counts) (all : ℕ) {x : Number} (v : ReadsNumber line 0 x (byte (bytes_from line 0))) where
  pub frame-no-byte : {k : Refusal} {r : Frame} → x ≡ Err k → r ≡ Err k → ReadsFrame line index n all r index
  unfolding read_frame
  frame-no-byte {k} e h = record {
    says = λ lines P held here frame. as_read (ap (read_frame all frame P) (sym (bytes-start line) ∙ no_byte (bytes_from line 0) (number-bad v e)) ∙ ap (λ m. no m frame) (sym (short (bytes_from line 0) (number-bad v e)))) (refused h);
    frames = refl;
  }

  kind-first : {f : Found} → x ≡ Ok f → bytes_of line ≡ f.value ∷ bytes_from line (kind_end line)
  kind-first {f} e = sym (bytes-start line) ∙ first_byte (bytes_from line 0) (number-got v e) ∙ ap (λ (a : ℕ). f.value ∷ bytes_from line a) (byte-behind v e)

  module _ {f : Found} (e : x ≡ Ok f) {o : Maybe CodeKind} (w : the_kind o ≡ decode 0x01 kinds f.value) where
    pub frame-no-kind : o ≡ None → ReadsFrame line index n all (Err BadFrame) index
    frame-no-kind q = record {
      says = λ lines P held here frame. as_read (frame_is all frame P (bytes_of line) (kind-first e) ∙ no_kind all frame P (bytes_from line (kind_end line)) (sym w ∙ ap the_kind q)) (refused refl);
      frames = refl;
    }

    module _ {kind : CodeKind} (q : o ≡ Some kind) {b : Bool} (order : Ordered (meant kind) n b) where
      d : decode 0x01 kinds f.value ≡ some (meant kind)
      d = sym w ∙ ap the_kind q

      pub frame-unordered : not b ≡ true → ReadsFrame line index n all (Err BadFrame) index
      frame-unordered t = record {
        says = λ lines P held here frame.
            as_read (frame_is all frame P (bytes_of line) (kind-first e) ∙ out_of_order all frame P (bytes_from line (kind_end line)) d (sym (order.says P held.counted) ∙ not-true b t)) (refused refl);
        frames = refl;
      }

      module _ (t : not b ≡ false) where
        in-turn : {lines : ℕ → List ℕ} {P : File} {k : Kind} → Held lines index n P → meant kind ≡ k → in_order_of k P ≡ true
        in-turn {P = P} held m = ap (λ i. in_order_of i P) (sym m) ∙ sym (order.says P held.counted) ∙ not-false b t

        behind-kind : {lines : ℕ → List ℕ} {P : File} {k : Kind} (frame : ℕ) → Held lines index n P → meant kind ≡ k → read_frame all frame P (bytes_of line) ≡ read_kind all frame P (bytes_from line (kind_end line)) k
        behind-kind {P = P} frame held m = frame_is all frame P (bytes_of line) (kind-first e) ∙ in_order all frame P (bytes_from line (kind_end line)) (d ∙ ap some m) (in-turn held m)

        pub frame-type : {r : Frame} {index' : List ℕ} → meant kind ≡ type_kind → TypeTaken line index n r index' → ReadsFrame line index n all r index'
        unfolding in_order_of read_kind
        frame-type k u = record {
          says = λ lines P held here frame.
              let few : length P.types < types_most = ltb-true _ _ (both_right _ _ (in-turn held k)) in
              let earlier = both_left _ _ (in-turn held k) in
              let later : NoLater P = record { functions = nothing_left P.functions (both_left _ _ earlier); inputs = nothing_left P.inputs (both_left _ _ (both_right _ _ earlier)); nodes = nothing_left P.nodes (both_right _ _ (both_right _ _ earlier)) } in
              as_read (behind-kind frame held k) (u.says lines P held later frame (omega (arith, held.counted.type_count)));
          frames = kept-before u.outside frames_from frame_table_words (omega arith);
        }

        pub frame-function : {s : Step} {r : Frame} {more : Counts} {index' : List ℕ} → meant kind ≡ function_kind → ReadsFunction line index n s index' → more ≡ one_more_of (meant kind) n → r ≡ ended_as line s more → ReadsFrame line index n all r index'
        unfolding in_order_of read_kind
        frame-function {s} k u m h = record {
          says = λ lines P held here frame.
              let less : length P.functions < functions_most = ltb-true _ _ (both_right _ _ (in-turn held k)) in
              let few : n.functions < functions_most = omega (arith, held.counted.function_count) in
              let earlier = both_left _ _ (in-turn held k) in
              as_read (behind-kind frame held k) (bound (with_function P) (ended_is frame (function P (bytes_from line (kind_end line))) s (u.says lines P held few) (h ∙ ap (ended_as line s) (m ∙ ap (λ i. one_more_of i n) k))) (λ F rest g. held-function held F here (nothing_left P.inputs (both_left _ _ earlier)) (nothing_left P.nodes (both_right _ _ earlier)) (u.enters lines P held few F rest g) u.outside few));
          frames = kept-before u.outside frames_from frame_table_words (omega arith);
        }

        pub frame-input : {s : Step} {r : Frame} {more : Counts} {index' : List ℕ} → meant kind ≡ input_kind → ReadsInput line index n s index' → more ≡ one_more_of (meant kind) n → r ≡ ended_as line s more → ReadsFrame line index n all r index'
        unfolding in_order_of read_kind
        frame-input {s} k u m h = record {
          says = λ lines P held here frame.
              let less : length P.inputs < inputs_most = ltb-true _ _ (both_right _ _ (in-turn held k)) in
              let few : n.inputs < inputs_most = omega (arith, held.counted.input_count) in
              let empty : P.nodes ≡ [] = nothing_left P.nodes (both_left _ _ (in-turn held k)) in
              as_read (behind-kind frame held k) (bound (with_input P) (ended_is frame (input P (bytes_from line (kind_end line))) s (u.says lines P held empty few) (h ∙ ap (ended_as line s) (m ∙ ap (λ i. one_more_of i n) k))) (λ i rest g. held-input held i here (u.enters lines P held empty few i rest g) u.outside empty few));
          frames = kept-before u.outside frames_from frame_table_words (omega arith);
        }

        pub frame-node : {s : Step} {r : Frame} {more : Counts} {index' : List ℕ} → meant kind ≡ node_kind → ReadsNode line index n all s index' → more ≡ one_more_of (meant kind) n → r ≡ ended_as line s more → ReadsFrame line index n all r index'
        unfolding in_order_of read_kind
        frame-node {s} k u m h = record {
          says = λ lines P held here frame.
              let less : length P.nodes < nodes_most = ltb-true _ _ (in-turn held k) in
              let few : n.nodes < nodes_most = omega (arith, held.counted.node_count) in
              as_read (behind-kind frame held k) (bound (with_node P) (ended_is frame (node all P (bytes_from line (kind_end line))) s (u.says lines P held few) (h ∙ ap (ended_as line s) (m ∙ ap (λ i. one_more_of i n) k))) (λ a rest g. held-node held a here (u.enters lines P held few a rest g) u.outside few));
          frames = kept-before u.outside frames_from frame_table_words (omega arith);
        }
