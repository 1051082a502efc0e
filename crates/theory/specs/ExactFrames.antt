-- The readers of what stands in a frame are exact: types, functions, inputs and nodes.
use Rattle.std.specs.Prelude.{ℕ, ◌<◌, ◌≡◌, refl, length}
use Rattle.std.proofs.Common.{zero-le, arith}
use mathlib.Core.List.{List, [], ◌∷◌, ◌++◌, append_assoc}
use Rattle.std.proofs.Math.Option.{some}
use Rattle.language.specs.Limits.{constructors_most, fields_most, parameters_most, conditions_most, measures_most, nesting_most}
use Rattle.language.specs.Result.{choose}
use Rattle.language.specs.Syntax.{Relation, req, rlt, rle, Condition, Function, Input, Node, File}
use Rattle.language.specs.Format.{spell_all, plain_bytes, declared_bytes, size_bytes, result_bytes, expr_bytes, relation_code, condition_bytes}
use Rattle.language.specs.Format.{constructor_bytes, type_bytes, function_bytes, input_bytes, node_bytes}
use Rattle.language.specs.Scope.{named_count, body_scope, outer_scope}
use Rattle.language.specs.Within.{WithinPlain, WithinDeclared, WithinExpr, WithinConstructor, WithinCondition, WithinFunction, WithinInput}
use Rattle.language.specs.Parser.{got, and_then, index, decode, code, counted}
use Rattle.language.specs.ReadExpr.{field, plain}
use Rattle.language.specs.Reader.{type_def, relations, condition, function, input, node}
use Rattle.theory.specs.Exact.{Behind, Exact, next, done, exact-as, append-three}
use Rattle.theory.specs.ExactParts.{one, index-exact, entry, no_entry, code-exact, Counted, counted-exact}
use Rattle.theory.specs.ExactTypes.{field-exact, plain-exact, declared-exact, size_exact, result-exact}
use Rattle.theory.specs.ExactExpr.{expr-exact}

-- ---- types
constructor-exact : (types : ℕ) → Exact (counted 0 fields_most (field types)) constructor_bytes (WithinConstructor types)
unfolding constructor_bytes
constructor-exact types =
    exact-as (λ fs w. record { few = w.few; fields = w.each }) (λ fs w. record { some = omega arith; few = w.few; each = w.fields }) (counted-exact (field-exact types) 0 fields_most)

pub type-exact : (known : File) → Exact (type_def known) type_bytes (Counted 1 constructors_most (WithinConstructor (length known.types)))
unfolding type_def type_bytes
type-exact known = counted-exact (constructor-exact (length known.types)) 1 constructors_most

-- ---- functions
relation-exact : Exact (code 0x00 relations) (λ r. one (relation_code r)) (λ r. Unit {0})
unfolding decode choose
relation-exact = code-exact 0x00 relations relation_code stands (entry refl (entry refl (entry refl no_entry)))
  where
    stands : (r : Relation) → decode 0x00 relations (relation_code r) ≡ some r
    stands req = refl
    stands rlt = refl
    stands rle = refl

condition-exact : (vars : ℕ) → Exact (condition vars) condition_bytes (WithinCondition vars)
unfolding condition condition_bytes and_then
condition-exact vars = record { back = back; forth = forth }
  where
    back : (c : Condition) (rest : List ℕ) → WithinCondition vars c → condition vars (condition_bytes c ++ rest) ≡ got c rest
    back c rest w =
        rw (
          append_assoc (size_bytes c.left) (size_bytes c.right) rest,
          relation-exact.back c.rel _ tt,
          (size_exact vars).back c.left _ w.left,
          (size_exact vars).back c.right rest w.right,
        )

    forth : Behind condition_bytes (WithinCondition vars) [] (condition vars)
    forth = next relation-exact.forth λ r t. next (size_exact vars).forth λ a u. next (size_exact vars).forth λ b v. done (record { left = u; right = v }) refl

spell_one : (l : List ℕ) → spell_all one l ≡ l
unfolding spell_all
spell_one [] = refl
spell_one (b ∷ l) = rw (spell_one l)

parameters-exact : (types : ℕ) → Exact (counted 0 parameters_most (plain types)) (λ ps. length ps ∷ spell_all plain_bytes ps) (Counted 0 parameters_most (WithinPlain types))
parameters-exact types = counted-exact (plain-exact types) 0 parameters_most

pub conditions-exact : (vars : ℕ) → Exact (counted 0 conditions_most (condition vars)) (λ cs. length cs ∷ spell_all condition_bytes cs) (Counted 0 conditions_most (WithinCondition vars))
conditions-exact vars = counted-exact (condition-exact vars) 0 conditions_most

measure-exact : (vars : ℕ) → Exact (counted 0 measures_most (index vars)) (λ m. length m ∷ spell_all one m) (Counted 0 measures_most (λ i. i < vars))
measure-exact vars = counted-exact (index-exact vars) 0 measures_most

-- the bytes of a function, part for part as they are read
function-parts : (F : Function) (rest : List ℕ) → function_bytes F ++ rest ≡ length F.parameters ∷ spell_all plain_bytes F.parameters ++ (result_bytes F.result
    ++ (length F.conditions ∷ spell_all condition_bytes F.conditions ++ (length F.measure ∷ spell_all one F.measure ++ (expr_bytes F.body ++ rest))))
unfolding function_bytes
function-parts F rest = simp (append_assoc, spell_one)

module _ (known : File) where
  function-back : (F : Function) (rest : List ℕ) → WithinFunction known.types known.functions F → function known (function_bytes F ++ rest) ≡ got F rest
  unfolding function and_then
  function-back F rest w =
      let vars = named_count F.parameters in
      rw (
        function-parts F rest,
        (parameters-exact (length known.types)).back F.parameters _ (record { some = zero-le; few = w.few_parameters; each = w.parameters }),
        (result-exact (length known.types) vars).back F.result _ w.result,
        (conditions-exact vars).back F.conditions _ (record { some = zero-le; few = w.few_conditions; each = w.conditions }),
        (measure-exact vars).back F.measure _ (record { some = zero-le; few = w.few_measures; each = w.measure }),
        (expr-exact nesting_most (body_scope known.types known.functions F.parameters)).back F.body rest w.body,
      )

  function-forth : Behind function_bytes (WithinFunction known.types known.functions) [] (function known)
  unfolding function function_bytes
  function-forth =
      next (parameters-exact (length known.types)).forth λ ps p.
      next (result-exact (length known.types) (named_count ps)).forth λ ρ r.
      next (conditions-exact (named_count ps)).forth λ cs c.
      next (measure-exact (named_count ps)).forth λ ms m.
      next (expr-exact nesting_most (body_scope known.types known.functions ps)).forth λ e b.
      done (record {
        few_parameters = p.few;
        parameters = p.each;
        result = r;
        few_conditions = c.few;
        conditions = c.each;
        few_measures = m.few;
        measure = m.each;
        body = b;
      }) (rw (spell_one ms) (regroup (length ps ∷ spell_all plain_bytes ps) (result_bytes ρ) (length cs ∷ spell_all condition_bytes cs) (length ms ∷ ms) (expr_bytes e)))
    where
      regroup : (x y z u v : List ℕ) → x ++ (y ++ (z ++ (u ++ v))) ≡ x ++ y ++ z ++ u ++ v
      regroup x y z u v = simp append_assoc

  pub function-exact : Exact (function known) function_bytes (WithinFunction known.types known.functions)
  function-exact = record { back = function-back; forth = function-forth }

  -- ---- channels
  pub input-exact : Exact (input known) input_bytes (WithinInput known)
  unfolding input and_then input_bytes
  input-exact = record { back = back; forth = forth }
    where
      back : (i : Input) (rest : List ℕ) → WithinInput known i → input known (input_bytes i ++ rest) ≡ got i rest
      back i rest w =
          rw (
            append_assoc (declared_bytes i.declared) (expr_bytes i.initial) rest,
            (declared-exact (length known.types)).back i.declared _ w.declared,
            (expr-exact nesting_most (outer_scope known.types known.functions 0)).back i.initial rest w.initial,
          )

      forth : Behind input_bytes (WithinInput known) [] (input known)
      forth =
          next (declared-exact (length known.types)).forth λ τ u.
          next (expr-exact nesting_most (outer_scope known.types known.functions 0)).forth λ e v.
          done (record { declared = u; initial = v }) refl

-- a node where the file has so many channels
pub record NodeAmong (channels : ℕ) (known : File) (n : Node) : Type 0 where
  pub declared : WithinDeclared (length known.types) n.declared
  pub initial : WithinExpr nesting_most (outer_scope known.types known.functions 0) n.initial
  pub update : WithinExpr nesting_most (outer_scope known.types known.functions channels) n.update

pub node-exact : (channels : ℕ) (known : File) → Exact (node channels known) node_bytes (NodeAmong channels known)
unfolding node and_then node_bytes
node-exact channels known = record { back = back; forth = forth }
  where
    back : (n : Node) (rest : List ℕ) → NodeAmong channels known n → node channels known (node_bytes n ++ rest) ≡ got n rest
    back n rest w =
        rw (
          append-three (declared_bytes n.declared) (expr_bytes n.initial) (expr_bytes n.update) rest,
          (declared-exact (length known.types)).back n.declared _ w.declared,
          (expr-exact nesting_most (outer_scope known.types known.functions 0)).back n.initial _ w.initial,
          (expr-exact nesting_most (outer_scope known.types known.functions channels)).back n.update rest w.update,
        )

    forth : Behind node_bytes (NodeAmong channels known) [] (node channels known)
    forth =
        next (declared-exact (length known.types)).forth λ τ u.
        next (expr-exact nesting_most (outer_scope known.types known.functions 0)).forth λ e v.
        next (expr-exact nesting_most (outer_scope known.types known.functions channels)).forth λ e' w.
        done (record { declared = u; initial = v; update = w }) (simp append_assoc)
