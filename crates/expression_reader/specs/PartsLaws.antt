-- An expression read head by head is what `language` reads.
use Rattle.std.specs.Prelude.{ℕ, zero, suc, ◌-◌, ◌<◌, List, [], false, ◌≡◌, length, get_or}
use Rattle.std.proofs.Math.Path.{refl, subst}
use Rattle.std.proofs.Common.{sym, ap, ◌∙◌}
use native.Mathlib.Omega.{arith}
use Rattle.language.specs.Syntax.{Expr, Exprs, enil, econs, eif, eop, ecall, econ, eadj}
use Rattle.language.specs.Scope.{Scope, room_in}
use Rattle.language.specs.Parser.{Read, got, bad, Parser, and_then, must, return, refuse, index, code, code_in}
use Rattle.language.specs.ReadExpr.{Form, bool_form, int_form, var_form, now_form, last_form, let_form, if_form, op_form, call_form, con_form, case_form, adj_form, fit_form, forms, ops, size, exprs, expr_behind, expr_at}
use Rattle.text.specs.Bytes.{forget}
use Rattle.text.specs.StepLaws.{forget-then}
use Rattle.expression_reader.specs.Parts.{whole, parts, head_at_of, waits, remaining}

-- ---- one read behind another
then-then : {A B C : Type 0} (y : Read A) (k : A → Parser B) (h : B → Parser C) → and_then (and_then y k) h ≡ and_then y (λ a bs. and_then (k a bs) h)
unfolding and_then
then-then (got a bs) k h = refl
then-then (bad n) k h = refl

then_same : {A B : Type 0} (y : Read A) (j k : A → Parser B) → ((a : A) (bs : List ℕ) → j a bs ≡ k a bs) → and_then y j ≡ and_then y k
unfolding and_then
then_same (got a bs) j k same = same a bs
then_same (bad n) j k same = refl

forget-cong : {A B C : Type 0} (y : Read A) (j : A → Parser B) (k : A → Parser C) → ((a : A) (bs : List ℕ) → forget (j a bs) ≡ forget (k a bs)) → forget (and_then y j) ≡ forget (and_then y k)
unfolding and_then forget
forget-cong (got a bs) j k same = same a bs
forget-cong (bad n) j k same = refl

-- what follows does not ask for the value
unasked : {A B C : Type 0} (y : Read A) (z : Read B) (k : Parser C) → forget y ≡ forget z → forget (and_then y (λ a. k)) ≡ forget (and_then z (λ b. k))
unfolding and_then forget
unasked (got a bs) (got b cs) k e = let same : bs ≡ cs = cc in ap (λ l. forget (k l)) same
unasked (got a bs) (bad m) k e = absurd (let z : ◌≡◌ {A = ℕ} 0 1 = cc in omega arith)
unasked (bad n) (got b cs) k e = absurd (let z : ◌≡◌ {A = ℕ} 0 1 = cc in omega arith)
unasked (bad n) (bad m) k e = e

-- ---- several expressions in turn: the first, and then the others
exprs-more : (p : Parser Expr) (n : ℕ) (bs : List ℕ) → forget (and_then (p bs) (λ e cs. exprs p n cs)) ≡ forget (exprs p (suc n) bs)
unfolding exprs
exprs-more p n bs = forget-cong (p bs) _ _ (λ e cs. sym (forget-then (econs e) (exprs p n cs)))

pub exprs-one : (p : Parser Expr) (bs : List ℕ) → forget (p bs) ≡ forget (exprs p 1 bs)
unfolding exprs and_then
exprs-one p bs = sym (forget-then (λ e. econs e enil) (p bs))

exprs-two : (p : Parser Expr) (g : Expr → Expr → Expr) (bs : List ℕ) → forget (and_then (p bs) (λ a cs. and_then (p cs) (λ b ds. got (g a b) ds))) ≡ forget (exprs p 2 bs)
exprs-two p g bs = forget-cong (p bs) _ _ (λ a cs. forget-then (g a) (p cs) ∙ exprs-one p cs) ∙ exprs-more p 1 bs

exprs-three : (p : Parser Expr) (g : Expr → Expr → Expr → Expr) (bs : List ℕ) → forget (and_then (p bs) (λ a cs. and_then (p cs) (λ b ds. and_then (p ds) (λ d es. got (g a b d) es)))) ≡ forget (exprs p 3 bs)
exprs-three p g bs = forget-cong (p bs) _ _ (λ a cs. exprs-two p (g a) cs) ∙ exprs-more p 2 bs

exprs-same : (p q : Parser Expr) → ((bs : List ℕ) → p bs ≡ q bs) → (n : ℕ) (bs : List ℕ) → exprs p n bs ≡ exprs q n bs
unfolding exprs
exprs-same p q same zero bs = refl
exprs-same p q same (suc n) bs = ap (λ y. and_then y (λ e cs. and_then (exprs p n cs) (λ es ds. got (econs e es) ds))) (same bs) ∙ then_same (q bs) _ _ (λ e cs. ap (λ y. and_then y (λ es ds. got (econs e es) ds)) (exprs-same p q same n cs))

-- ---- a form: what stands before its parts, and its parts
none-behind : (p : Parser Expr) (y : Read Expr) → forget y ≡ forget (and_then (and_then y (λ e cs. got 0 cs)) (λ n. exprs p n))
unfolding and_then forget exprs
none-behind p (got e cs) = refl
none-behind p (bad n) = refl

nothing_left : (inner : Scope → Parser Expr) (S : Scope) (form : Form) (bs : List ℕ) → forget (expr_behind inner S form bs) ≡ forget (and_then (whole inner S form bs) (λ n. exprs (inner S) n))
unfolding whole
nothing_left inner S form bs = none-behind (inner S) (expr_behind inner S form bs)

if-parts : (inner : Scope → Parser Expr) (S : Scope) (bs : List ℕ) → forget (expr_behind inner S if_form bs) ≡ forget (and_then (parts inner S if_form bs) (λ n. exprs (inner S) n))
unfolding expr_behind parts and_then
if-parts inner S bs = exprs-three (inner S) eif bs

op-parts : (inner : Scope → Parser Expr) (S : Scope) (bs : List ℕ) → forget (expr_behind inner S op_form bs) ≡ forget (and_then (parts inner S op_form bs) (λ n. exprs (inner S) n))
unfolding expr_behind parts and_then
op-parts inner S bs =
    forget-cong (code 0x00 ops bs) _ (λ o cs. exprs (inner S) 2 cs) (λ o cs. exprs-two (inner S) (eop o) cs)
    ∙ ap forget (sym (then-then (code 0x00 ops bs) (λ o cs. got 2 cs) (λ n. exprs (inner S) n)))

adj-parts : (inner : Scope → Parser Expr) (S : Scope) (bs : List ℕ) → forget (expr_behind inner S adj_form bs) ≡ forget (and_then (parts inner S adj_form bs) (λ n. exprs (inner S) n))
unfolding expr_behind parts and_then
adj-parts inner S bs =
    forget-cong (size S.sizes bs) _ (λ z cs. exprs (inner S) 1 cs) (λ z cs. forget-then (eadj z) (inner S cs) ∙ exprs-one (inner S) cs)
    ∙ ap forget (sym (then-then (size S.sizes bs) (λ z cs. got 1 cs) (λ n. exprs (inner S) n)))

call-parts : (inner : Scope → Parser Expr) (S : Scope) (bs : List ℕ) → forget (expr_behind inner S call_form bs) ≡ forget (and_then (parts inner S call_form bs) (λ n. exprs (inner S) n))
unfolding expr_behind parts and_then
call-parts inner S bs =
    forget-cong (index (length S.arities) bs) _ (λ f cs. exprs (inner S) (get_or S.arities f 0) cs) (λ f cs. forget-then (ecall f) (exprs (inner S) (get_or S.arities f 0) cs))
    ∙ ap forget (sym (then-then (index (length S.arities) bs) (λ f cs. got (get_or S.arities f 0) cs) (λ n. exprs (inner S) n)))

con-parts : (inner : Scope → Parser Expr) (S : Scope) (bs : List ℕ) → forget (expr_behind inner S con_form bs) ≡ forget (and_then (parts inner S con_form bs) (λ n. exprs (inner S) n))
unfolding expr_behind parts and_then
con-parts inner S bs =
    let count : ℕ → ℕ → ℕ = λ t c. length (get_or (get_or S.types t []) c []) in
    forget-cong (index (length S.types) bs) _ (λ t cs. and_then (and_then (index (length (get_or S.types t [])) cs) (λ c ds. got (count t c) ds)) (λ n. exprs (inner S) n))
    (λ t cs. forget-cong (index (length (get_or S.types t [])) cs) _ (λ c ds. exprs (inner S) (count t c) ds) (λ c ds. forget-then (econ t c) (exprs (inner S) (count t c) ds))
    ∙ ap forget (sym (then-then (index (length (get_or S.types t [])) cs) (λ c ds. got (count t c) ds) (λ n. exprs (inner S) n))))
    ∙ ap forget (sym (then-then (index (length S.types) bs) (λ t cs. and_then (index (length (get_or S.types t [])) cs) (λ c ds. got (count t c) ds)) (λ n. exprs (inner S) n)))

parts_then : (inner : Scope → Parser Expr) (S : Scope) (form : Form) (bs : List ℕ) → forget (expr_behind inner S form bs) ≡ forget (and_then (parts inner S form bs) (λ n. exprs (inner S) n))
unfolding parts
parts_then inner S bool_form bs = nothing_left inner S bool_form bs
parts_then inner S int_form bs = nothing_left inner S int_form bs
parts_then inner S var_form bs = nothing_left inner S var_form bs
parts_then inner S now_form bs = nothing_left inner S now_form bs
parts_then inner S last_form bs = nothing_left inner S last_form bs
parts_then inner S let_form bs = nothing_left inner S let_form bs
parts_then inner S if_form bs = if-parts inner S bs
parts_then inner S op_form bs = op-parts inner S bs
parts_then inner S call_form bs = call-parts inner S bs
parts_then inner S con_form bs = con-parts inner S bs
parts_then inner S case_form bs = nothing_left inner S case_form bs
parts_then inner S adj_form bs = adj-parts inner S bs
parts_then inner S fit_form bs = nothing_left inner S fit_form bs

-- ---- an expression: its head, and its parts
refused-whole : {A B C : Type 0} (y : Read A) (h : B → Parser C) → forget (and_then y (λ a. refuse {A = Expr} 7)) ≡ forget (and_then (and_then y (λ a. refuse {A = B} 7)) h)
unfolding and_then forget
refused-whole (got a bs) h = refl
refused-whole (bad n) h = refl

head-then : (levels : ℕ) (S : Scope) (bs : List ℕ) → forget (expr_at levels S bs) ≡ forget (and_then (head_at_of levels S bs) (λ n. exprs (expr_at (levels - 1) S) n))
unfolding expr_at head_at_of
head-then zero S bs = refused-whole (code_in false 0x10 forms bs) _
head-then (suc m) S bs =
    let same : suc m - 1 ≡ m = omega arith in
    subst (λ l. forget (expr_at (suc m) S bs) ≡ forget (and_then (head_at_of (suc m) S bs) (λ n. exprs (expr_at l S) n))) (sym same)
    (forget-cong (code_in (room_in S) 0x10 forms bs) _ _ (λ form cs. parts_then (expr_at m) S form cs) ∙ ap forget (sym (then-then (code_in (room_in S) 0x10 forms bs) (λ form. parts (expr_at m) S form) (λ n. exprs (expr_at m S) n))))

-- ---- a scope that is too wide is as good as no level left
no_room : {A B : Type 0} (y : Read A) (j k : A → Parser B) → and_then (and_then y (λ a. must false 7 (return a))) j ≡ and_then (and_then y (λ a. must false 7 (return a))) k
unfolding and_then must
no_room (got a bs) j k = refl
no_room (bad n) j k = refl

narrow-expr : (S : Scope) → room_in S ≡ false → (levels : ℕ) (bs : List ℕ) → expr_at levels S bs ≡ expr_at 0 S bs
unfolding expr_at code_in
narrow-expr S narrow zero bs = refl
narrow-expr S narrow (suc m) bs = rw narrow (no_room (code 0x10 forms bs) (λ form. expr_behind (expr_at m) S form) (λ form. refuse 7))

pub narrow-exprs : (levels : ℕ) (S : Scope) → room_in S ≡ false → (n : ℕ) (bs : List ℕ) → exprs (expr_at levels S) n bs ≡ exprs (expr_at 0 S) n bs
narrow-exprs levels S narrow n bs = exprs-same (expr_at levels S) (expr_at 0 S) (narrow-expr S narrow levels) n bs

-- ---- what remains
module _ (levels : ℕ) (S : Scope) (W : List ℕ) where
  pub remaining-all : (n : ℕ) (bs : List ℕ) → forget (exprs (expr_at levels S) n bs) ≡ forget (remaining levels S n W 0 bs)
  unfolding remaining waits
  remaining-all n bs =
      let same : levels - 0 ≡ levels = omega arith in
      subst (λ l. forget (exprs (expr_at levels S) n bs) ≡ forget (and_then (exprs (expr_at l S) n bs) (λ es. return tt))) (sym same) (sym (forget-then (λ es. tt) (exprs (expr_at levels S) n bs)))

  pub remaining-none : (bs : List ℕ) → remaining levels S 0 W 0 bs ≡ got tt bs
  unfolding remaining waits exprs and_then
  remaining-none bs = refl

  pub remaining-resumed : (k : ℕ) (bs : List ℕ) → remaining levels S 0 W (suc k) bs ≡ remaining levels S (get_or W k 0) W k bs
  unfolding remaining waits exprs and_then
  remaining-resumed k bs = refl

  kept : (depth : ℕ) (e : Expr) (es : Exprs) (ds : List ℕ) → and_then (got (econs e es) ds) (λ z. waits levels S W depth) ≡ waits levels S W depth ds
  unfolding and_then
  kept depth e es ds = refl

  first_of : (m depth : ℕ) (bs : List ℕ) → remaining levels S (suc m) W depth bs ≡ and_then (expr_at (levels - depth) S bs) (λ e cs. remaining levels S m W depth cs)
  unfolding remaining exprs
  first_of m depth bs =
      let p = expr_at (levels - depth) S in
      then-then (p bs) (λ e cs. and_then (exprs p m cs) (λ es ds. got (econs e es) ds)) (λ es. waits levels S W depth)
      ∙ then_same (p bs) _ _ (λ e cs. then-then (exprs p m cs) (λ es ds. got (econs e es) ds) (λ es. waits levels S W depth) ∙ then_same (exprs p m cs) _ _ (λ es ds. kept depth e es ds))

  -- the head of the next one, its parts, and then the others
  pub remaining-head : (left depth : ℕ) (bs : List ℕ) → 0 < left → forget (remaining levels S left W depth bs) ≡ forget (and_then (head_at_of (levels - depth) S bs) (λ n cs. and_then (exprs (expr_at (levels - depth - 1) S) n cs) (λ es ds. remaining levels S (left - 1) W depth ds)))
  remaining-head zero depth bs some = absurd (omega arith)
  remaining-head (suc m) depth bs some =
      let same : suc m - 1 ≡ m = omega arith in
      let l = levels - depth in
      subst (λ k. forget (remaining levels S (suc m) W depth bs) ≡ forget (and_then (head_at_of l S bs) (λ n cs. and_then (exprs (expr_at (l - 1) S) n cs) (λ es ds. remaining levels S k W depth ds)))) (sym same)
      (ap forget (first_of m depth bs)
      ∙ unasked (expr_at l S bs) (and_then (head_at_of l S bs) (λ n. exprs (expr_at (l - 1) S) n)) (λ cs. remaining levels S m W depth cs) (head-then l S bs)
      ∙ ap forget (then-then (head_at_of l S bs) (λ n. exprs (expr_at (l - 1) S) n) (λ es cs. remaining levels S m W depth cs)))

  pub remaining-leaf : (left depth : ℕ) (cs : List ℕ) → and_then (exprs (expr_at (levels - depth - 1) S) 0 cs) (λ es ds. remaining levels S left W depth ds) ≡ remaining levels S left W depth cs
  unfolding exprs and_then
  remaining-leaf left depth cs = refl

-- a table that is the same further out has the same waiting
waits-same : (levels : ℕ) (S : Scope) (W T : List ℕ) (depth : ℕ) → ((k : ℕ) → k < depth → get_or T k 0 ≡ get_or W k 0) → (bs : List ℕ) → waits levels S W depth bs ≡ waits levels S T depth bs
unfolding waits
waits-same levels S W T zero same bs = refl
waits-same levels S W T (suc k) same bs =
    let p = expr_at (levels - k) S in
    ap (λ n. and_then (exprs p n bs) (λ es. waits levels S W k)) (sym (same k (omega arith)))
    ∙ then_same (exprs p (get_or T k 0) bs) _ _ (λ es cs. waits-same levels S W T k (λ j less. same j (omega arith)) cs)

-- the others wait while the parts are passed
pub remaining-inside : (levels : ℕ) (S : Scope) (W T : List ℕ) (left depth n : ℕ) → get_or T depth 0 ≡ left → ((k : ℕ) → k < depth → get_or T k 0 ≡ get_or W k 0) → (cs : List ℕ) → and_then (exprs (expr_at (levels - depth - 1) S) n cs) (λ es ds. remaining levels S left W depth ds) ≡ remaining levels S n T (suc depth) cs
unfolding remaining waits
remaining-inside levels S W T left depth n top same cs =
    let fewer : levels - depth - 1 ≡ levels - suc depth = omega arith in
    let p = expr_at (levels - depth) S in
    ap (λ l. and_then (exprs (expr_at l S) n cs) (λ es ds. remaining levels S left W depth ds)) fewer
    ∙ then_same (exprs (expr_at (levels - suc depth) S) n cs) _ _ (λ es ds. ap (λ m. and_then (exprs p m ds) (λ fs. waits levels S W depth)) (sym top) ∙ then_same (exprs p (get_or T depth 0) ds) _ _ (λ fs bs. waits-same levels S W T depth same bs))
