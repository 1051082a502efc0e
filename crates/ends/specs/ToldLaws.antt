-- The table of a file, line by line: what was told of a line stays told when a later one is walked over. What each node reads, likewise.
use Rattle.std.specs.Prelude.{ℕ, ◌+◌, ◌≤◌, ◌<◌, List, map, true, ◌≡◌, refl, get_or, set, drop}
use Rattle.std.proofs.Math.Option.{some, some-injective}
use Rattle.std.proofs.Common.{sym, ap₂, ◌∙◌, zero-add, length-take, length-drop, get_or-set_same, get_or-set_other}
use Rattle.std.proofs.Math.Path.{ap, subst, subst₂}
use native.Mathlib.Omega.{arith}
use Rattle.std.proofs.Math.ListN.{length, get_elem? as look}
use Rattle.std.proofs.lemmas.List.{length-map}
use Rattle.language.specs.Limits.{nesting_most, nodes_most}
use Rattle.language.specs.Syntax.{Expr, ebool, Function, Node, File, initial_values, no_node}
use Rattle.language.specs.Order.{readings}
use Rattle.theory.specs.Lists.{look-less, look-map}
use Rattle.theory.specs.Places.{below-or-last, look_at, look-mapped}
use Rattle.text.specs.declared.Cursor.{Cursor}
use Rattle.text.specs.Places.{left-most, place-most}
use Rattle.encoding.specs.Spells.{spells-left, spells-within}
use Rattle.encoding.specs.FrameLines.{line_at, line-order, line_before, line-there}
use Rattle.encoding.specs.Known.{outer-known, body-known}
use Rattle.encoding.specs.WithinParts.{node-within}
use Rattle.index.specs.declared.Counts.{Counts}
use Rattle.index.specs.Sections.{frames_of, types_of, functions_of, channels_of, counts_in}
use Rattle.index.specs.Indexed.{frame_place, frame_length, frame_part, body_at, initial_at, update_at, function_line, channel_line, FrameIndexed, Counted, Indexed}
use Rattle.heads.specs.ScopeShapes.{known-shapes}
use Rattle.ends.specs.declared.walk.Passed.{Passed}
use Rattle.ends.specs.declared.Part.{Part}
use Rattle.ends.specs.declared.Part.TheVariants.{Body, Initial, Update}
use Rattle.ends.specs.Gathered.{Gathers}
use Rattle.ends.specs.Ended.{LineEnded, BodiesTold, UpdatesTold, InitialsTold}
use Rattle.ends.specs.Walks.{Walks}
use Rattle.ends.specs.Lengths.{expr-some}
use Rattle.ends.specs.KeptLaws.{ended-kept}
use Rattle.ends.specs.Initials.{initials-long, initial-known}
use Rattle.ends.specs.Told.{Stands, FrontKept, LineTold, LineEnds, start_of, LinesStand, LinesTold, TellsLines, LinesRead, lines_before, WalksUpdates, TellsUpdates, TellsInitials, TellsReadings}

-- the line of a frame of the index is within the text
line-fits : {text frames : List ℕ} {i : ℕ} → FrameIndexed text frames i → frame_place frames i + length (line_at text i) ≤ length text
unfolding frame_part
line-fits {text} {frames} {i} f =
    omega (arith, f.within, ap length f.line, length-take (frame_length frames i) (drop (frame_place frames i) text), length-drop (frame_place frames i) text)

-- ---- one line walked over
pub line-done : {text index ends ends' line : List ℕ} {i from : ℕ} {at : Cursor} {r : Passed} → line ≡ frame_part text (frames_of index) i → from ≡ frame_place (frames_of index) i → Walks line (types_of index) (functions_of index) from at nesting_most ends ends' r →
    LineEnds text index i at.at ends ends' r.readings
line-done {text} {index} {ends} {ends'} {line} {i} {from} {at} {r} is place u = record { says = says }
  where
    says : (e : Expr) → Stands text index i at.at e → LineTold text index i at.at e ends ends' r.readings
    says e s =
        let same : line ≡ line_at text i = is ∙ s.frame.line in
        let walks : Walks (line_at text i) (types_of index) (functions_of index) (frame_place (frames_of index) i) at nesting_most ends ends' r = rw (place, same) at u in
        let walked = walks.says s.scope e s.shapes s.within s.spelled (omega (arith, line-fits s.frame, s.short)) in
        record { told = walked.told.parts; read = walked.read; kept = record { same = λ k less. walked.kept.before k (omega (arith, less, s.frame.starts)) } }

-- what was told of an earlier line stays told
line_stays : {text index ends ends' : List ℕ} {i at : ℕ} {e : Expr} (j : ℕ) → Stands text index i at e → i < j → FrontKept text j ends ends' → LineEnded text index i at e ends → LineEnded text index i at e ends'
line_stays {text} {index} {ends} {ends'} {i} {at} {e} j s less k told =
    let most = place-most (line_at text i) (spells-within s.spelled) in
    let there = line-there text i (omega (arith, expr-some e, spells-left s.spelled, left-most (line_at text i) at)) in
    ended-kept ends ends' (frame_place (frames_of index) i) (line_at text i) told (record {
      fits = spells-left s.spelled;
      same = record { word = λ p low high. k.same (frame_place (frames_of index) i + p) (omega (arith, s.frame.starts, high, most, line_before text i j there less)) };
    })

front-on : {text ends ends' ends'' : List ℕ} {line : ℕ} (next : ℕ) → line ≤ next → FrontKept text line ends ends' → FrontKept text next ends' ends'' → FrontKept text line ends ends''
front-on {text} {line} next le k m = record { same = λ i less. m.same i (omega (arith, less, line-order text line next le)) ∙ k.same i less }

-- ---- one more of several
module _ {text index : List ℕ} {part : Part} {first from : ℕ} {es : List Expr} (s : LinesStand text index part first from es) where
  line-more : (k : ℕ) {ends₀ ends ends' : List ℕ} {word : ℕ} → k < length es → LinesTold text index part first from es k ends → FrontKept text first ends₀ ends → LineEnds text index (first + k) (start_of index part (from + k)) ends ends' word →
      LinesTold text index part first from es (k + 1) ends' × FrontKept text first ends₀ ends'
  line-more k {ends₀} {ends} {ends'} {word} less so kept l = (record { each = each }, front-on (first + k) (omega arith) kept last-told.kept)
    where
      there : look es k ≡ some (get_or es k (ebool true))
      there = look_at es k (ebool true) less

      last-told : LineTold text index (first + k) (start_of index part (from + k)) (get_or es k (ebool true)) ends ends' word
      last-told = l.says (get_or es k (ebool true)) (s.each k there)

      each : (j : ℕ) {e : Expr} → j < k + 1 → look es j ≡ some e → LineEnded text index (first + j) (start_of index part (from + j)) e ends'
      each j {e} below is = below-or-last j k (omega (arith, below)) (λ earlier. line_stays (first + k) (s.each j is) (omega (arith, earlier)) last-told.kept (so.each j earlier is))
          (λ last. rw (last, some-injective e (get_or es k (ebool true)) (sym is ∙ ap (look es) last ∙ there)) last-told.told)

-- ---- the loop
module _ (text index : List ℕ) (part : Part) (first from n : ℕ) where
  pub lines_none : (ends : List ℕ) → TellsLines text index part first from n 0 ends ends
  lines_none ends = record { says = λ es long s. (record { each = λ k less is. absurd (omega (arith, less)) }, record { same = λ j less. refl }) }

  pub lines-on : {k at word : ℕ} {ends₀ ends ends' : List ℕ} → k < n → TellsLines text index part first from n k ends₀ ends → at ≡ start_of index part (from + k) → LineEnds text index (first + k) at ends ends' word →
      TellsLines text index part first from n (k + 1) ends₀ ends'
  lines-on {k} less so place l = record {
    says = λ es long s.
        let told = so.says es long s in
        line-more s k (omega (arith, less, long)) told.0 told.1 (rw place at l);
  }

  pub lines_end : {k : ℕ} {ends₀ ends : List ℕ} → k ≤ n → n ≤ k → TellsLines text index part first from n k ends₀ ends → TellsLines text index part first from n n ends₀ ends
  lines_end {k} {ends₀} {ends} le ge so = let same : k ≡ n = omega (arith, le, ge) in subst (λ m. TellsLines text index part first from n m ends₀ ends) same so

-- ---- the loop over the updates
module _ {k word : ℕ} {es : List Expr} {sets sets' : List ℕ} (long : length sets ≡ nodes_most) (stored : sets' ≡ set sets k word) where
  read_more : k < length es → LinesRead es k sets → Gathers (readings (get_or es k (ebool true))) word → LinesRead es (k + 1) sets'
  read_more less so g = record { each = λ j {e} below few is. below-or-last j k (omega (arith, below)) (λ earlier. stays j earlier few is) (λ last. here j last few is) }
    where
      there : look es k ≡ some (get_or es k (ebool true))
      there = look_at es k (ebool true) less

      stays : (j : ℕ) {e : Expr} → j < k → j < nodes_most → look es j ≡ some e → Gathers (readings e) (get_or sets' j 0)
      stays j {e} earlier few is = subst (Gathers (readings e)) (sym (ap (λ (t : List ℕ). get_or t j 0) stored ∙ get_or-set_other sets k j word 0 (λ same. omega (arith, earlier, same)))) (so.each j earlier few is)

      here : (j : ℕ) {e : Expr} → j ≡ k → j < nodes_most → look es j ≡ some e → Gathers (readings e) (get_or sets' j 0)
      here j {e} last few is =
          let one : get_or sets' j 0 ≡ word = ap₂ (λ (t : List ℕ) (i : ℕ). get_or t i 0) stored last ∙ get_or-set_same sets k word 0 (omega (arith, few, last, long)) in
          subst₂ (λ (x : Expr) (w : ℕ). Gathers (readings x) w) (sym (some-injective e (get_or es k (ebool true)) (sym is ∙ ap (look es) last ∙ there))) (sym one) g

module _ {text index : List ℕ} {c : Counts} where
  pub updates-none : (ends sets : List ℕ) → WalksUpdates text index c 0 ends ends sets
  updates-none ends sets = record { tells = lines_none _ _ _ _ _ _ ends; reads = λ es long s. record { each = λ k less few is. absurd (omega (arith, less)) } }

  pub updates-on : {k at word : ℕ} {ends₀ ends ends' sets sets' : List ℕ} → k < c.nodes → WalksUpdates text index c k ends₀ ends sets → at ≡ start_of index Update (c.inputs + k) → LineEnds text index (lines_before c + k) at ends ends' word →
      length sets ≡ nodes_most → sets' ≡ set sets k word → WalksUpdates text index c (k + 1) ends₀ ends' sets'
  updates-on {k} {at} {word} {ends} {ends'} less u place l long stored = record {
    tells = lines-on _ _ _ _ _ _ less u.tells place l;
    reads = λ es all s.
        let inside : k < length es = omega (arith, less, all) in
        let here : LineEnds text index (lines_before c + k) (start_of index Update (c.inputs + k)) ends ends' word = rw place at l in
        read_more long stored inside (u.reads es all s) (here.says _ (s.each k (look_at es k (ebool true) inside))).read;
  }

  pub updates-end : {k : ℕ} {ends₀ ends sets : List ℕ} → k ≤ c.nodes → c.nodes ≤ k → WalksUpdates text index c k ends₀ ends sets → WalksUpdates text index c c.nodes ends₀ ends sets
  updates-end {k} {ends₀} {ends} {sets} le ge u = let same : k ≡ c.nodes = omega (arith, le, ge) in subst (λ m. WalksUpdates text index c m ends₀ ends sets) same u

-- ---- the expressions of a file
abbrev bodies_of : File → List Expr
bodies_of P = map (λ (F : Function). F.body) P.functions

abbrev updates_of : File → List Expr
updates_of P = map (λ (N : Node). N.update) P.nodes

module _ {text index : List ℕ} {P : File} (h : Indexed text index P) where
  channel-frame : (c : ℕ) → c < length P.inputs + length P.nodes → FrameIndexed text (frames_of index) (channel_line P c)
  channel-frame c less = h.each_frame (channel_line P c) (omega (arith, less))

  bodies-stand : LinesStand text index Body (length P.types) 0 (bodies_of P)
  unfolding start_of
  bodies-stand = record { each = λ f {e} is. subst (λ i. Stands text index (function_line P f) (body_at (functions_of index) i) e) (sym (zero-add f)) (each f is) }
    where
      each : (f : ℕ) {e : Expr} → look (bodies_of P) f ≡ some e → Stands text index (function_line P f) (body_at (functions_of index) f) e
      each f is =
          let F = look-mapped (λ (G : Function). G.body) P.functions f is in
          let k = body-known h.within f F.at in
          rw F.is (record {
            frame = h.each_frame (function_line P f) (omega (arith, look-less P.functions f F.at));
            short = h.short;
            scope = k.scope;
            shapes = known-shapes h k.known;
            within = k.within;
            spelled = (h.each_function f F.at).body;
          })

  updates-stand : LinesStand text index Update (length P.types + length P.functions + length P.inputs) (length P.inputs) (updates_of P)
  unfolding start_of
  updates-stand = record { each = each }
    where
      each : (m : ℕ) {e : Expr} → look (updates_of P) m ≡ some e → Stands text index (length P.types + length P.functions + length P.inputs + m) (update_at (channels_of index) (length P.inputs + m)) e
      each m is =
          let N = look-mapped (λ (M : Node). M.update) P.nodes m is in
          let line : length P.types + length P.functions + length P.inputs + m ≡ channel_line P (length P.inputs + m) = omega arith in
          rw (N.is, line) (record {
            frame = channel-frame (length P.inputs + m) (omega (arith, look-less P.nodes m N.at));
            short = h.short;
            scope = _;
            shapes = known-shapes h (outer-known P (length P.inputs + length P.nodes));
            within = (node-within h.within m N.at).update;
            spelled = (h.each_node m N.at).update;
          })

  initials-stand : LinesStand text index Initial (length P.types + length P.functions) 0 (initial_values P)
  unfolding start_of
  initials-stand = record { each = λ c {e} is. subst (λ i. Stands text index (channel_line P c) (initial_at (channels_of index) i) e) (sym (zero-add c)) (each c is) }
    where
      each : (c : ℕ) {e : Expr} → look (initial_values P) c ≡ some e → Stands text index (channel_line P c) (initial_at (channels_of index) c) e
      each c is =
          let x = initial-known h c is in
          record { frame = channel-frame c x.less; short = h.short; scope = _; shapes = known-shapes h (outer-known P 0); within = x.within; spelled = x.spelled }

-- ---- the whole file
module _ {text index : List ℕ} {n : Counts} (are : n ≡ counts_in index) where
  counted : {P : File} → Indexed text index P → Counted n P
  counted {P} h = subst (λ (m : Counts). Counted m P) (sym are) h.counted

  module _ {P : File} (h : Indexed text index P) where
    updates-from : length P.types + length P.functions + length P.inputs ≡ lines_before n
    updates-from = let c = counted h in omega (arith, c.type_count, c.function_count, c.input_count)

    updates-long : length (updates_of P) ≡ n.nodes
    updates-long = length-map P.nodes (λ (N : Node). N.update) ∙ (counted h).node_count

    updates-there : LinesStand text index Update (lines_before n) n.inputs (updates_of P)
    updates-there = subst₂ (λ i j. LinesStand text index Update i j (updates_of P)) updates-from (counted h).input_count (updates-stand h)

  pub readings_told : {ends ends' sets : List ℕ} → WalksUpdates text index n n.nodes ends ends' sets → TellsReadings text index sets
  readings_told u = record {
    says = λ P h i less.
        (u.reads (updates_of P) (updates-long h) (updates-there h)).each i (omega (arith, less, (counted h).node_count)) (omega (arith, less, h.within.few_nodes)) (look-map (λ (N : Node). N.update) P.nodes i (look_at P.nodes i no_node less));
  }

  module _ {ends₀ ends : List ℕ} (b : TellsLines text index Body n.types 0 n.functions n.functions ends₀ ends) where
    -- the bodies stay told while lines behind them are walked over
    bodies_stay : {P : File} {ends' : List ℕ} → Indexed text index P → (first : ℕ) → length P.types + length P.functions ≤ first → FrontKept text first ends ends' → BodiesTold text index ends' P
    unfolding start_of
    bodies_stay {P} {ends'} h first le kept = record {
      each = λ f {F} is.
          let c = counted h in
          let less = look-less P.functions f is in
          let there = look-map (λ (G : Function). G.body) P.functions f is in
          let stands = (bodies-stand h).each f there in
          let told = (b.says (bodies_of P) (length-map P.functions (λ (G : Function). G.body) ∙ c.function_count) (subst (λ i. LinesStand text index Body i 0 (bodies_of P)) c.type_count (bodies-stand h))).0.each f (omega (arith, less, c.function_count)) there in
          let place : body_at (functions_of index) (0 + f) ≡ body_at (functions_of index) f = ap (body_at (functions_of index)) (zero-add f) in
          subst (λ i. LineEnded text index (function_line P f) i F.body ends') place
          (line_stays first stands (omega (arith, less, le)) kept (subst (λ i. LineEnded text index (i + f) (body_at (functions_of index) (0 + f)) F.body ends) (sym c.type_count) told));
    }

    pub updates-told : {ends' sets : List ℕ} → WalksUpdates text index n n.nodes ends ends' sets → TellsUpdates text index ends'
    unfolding start_of
    updates-told {ends'} u = record { says = says }
      where
        says : (P : File) → Indexed text index P → UpdatesTold text index ends' P
        says P h =
            let c = counted h in
            let first = updates-from h in
            let told = u.tells.says (updates_of P) (updates-long h) (updates-there h) in
            record {
              bodies = bodies_stay h (lines_before n) (omega (arith, first)) told.1;
              each = λ m {n = N} is.
                  let line : lines_before n + m ≡ channel_line P (length P.inputs + m) = omega (arith, first) in
                  let its = told.0.each m (omega (arith, look-less P.nodes m is, c.node_count)) (look-map (λ (M : Node). M.update) P.nodes m is) in
                  subst₂ (λ i j. LineEnded text index i (update_at (channels_of index) (j + m)) N.update ends') line (sym c.input_count) its;
            }

    pub initials-told : {before many : ℕ} {ends' : List ℕ} → before ≡ n.types + n.functions → many ≡ n.inputs + n.nodes → TellsLines text index Initial before 0 many many ends ends' → TellsInitials text index ends'
    unfolding start_of
    initials-told {before} {many} {ends'} behind all u = record { says = says }
      where
        says : (P : File) → Indexed text index P → InitialsTold text index ends' P
        says P h =
            let c = counted h in
            let first : length P.types + length P.functions ≡ before = omega (arith, behind, c.type_count, c.function_count) in
            let long : length (initial_values P) ≡ many = initials-long h ∙ omega (arith, all, c.input_count, c.node_count) in
            let told = u.says (initial_values P) long (subst (λ i. LinesStand text index Initial i 0 (initial_values P)) first (initials-stand h)) in
            record {
              bodies = bodies_stay h before (omega (arith, first)) told.1;
              each = λ k {e} is. subst₂ (λ i j. LineEnded text index (i + k) (initial_at (channels_of index) j) e ends') (sym first) (zero-add k) (told.0.each k (omega (arith, look-less (initial_values P) k is, long)) is);
            }
