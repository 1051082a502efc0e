-- The initial value of a channel, by the channel's number: that it is within the limits, and where it is spelled.
use Rattle.std.specs.Prelude.{ℕ, ◌+◌, ◌-◌, ◌≤◌, ◌<◌, List, map, true, ◌≡◌, length, get_or}
use Rattle.std.proofs.Math.Option.{some, some-injective}
use Rattle.std.proofs.Common.{sym, ap, ◌∙◌, subst, arith, length-append}
use Rattle.std.proofs.lemmas.List.{length-map}
use Rattle.std.proofs.Math.ListN.{get_elem? as look}
use Rattle.language.specs.Limits.{nesting_most}
use Rattle.language.specs.Syntax.{Expr, ebool, Input, Node, File, initial_values}
use Rattle.language.specs.Format.{expr_bytes}
use Rattle.language.specs.Within.{WithinExpr}
use Rattle.theory.specs.Lists.{look-less, look-append, look-past}
use Rattle.theory.specs.Alls.{all-at}
use Rattle.theory.specs.Places.{below_or_not, look_at, look-mapped}
use Rattle.theory.specs.InitialTrees.{initial_scope, initials-within}
use Rattle.encoding.specs.Spells.{Spells}
use Rattle.encoding.specs.FrameLines.{line_at}
use Rattle.index.specs.Sections.{channels_of}
use Rattle.index.specs.Indexed.{initial_at, channel_line, Indexed}

pub record InitialKnown (text index : List ℕ) (P : File) (c : ℕ) (e : Expr) : Type 0 where
  pub less : c < length P.inputs + length P.nodes
  pub within : WithinExpr nesting_most (initial_scope P) e
  pub spelled : Spells expr_bytes (line_at text (channel_line P c)) (initial_at (channels_of index) c) e

module _ {text index : List ℕ} {P : File} (h : Indexed text index P) where
  abbrev of_inputs : List Expr
  of_inputs = map (λ (i : Input). i.initial) P.inputs

  abbrev of_nodes : List Expr
  of_nodes = map (λ (n : Node). n.initial) P.nodes

  pub initials-long : length (initial_values P) ≡ length P.inputs + length P.nodes
  initials-long = length-append of_inputs of_nodes ∙ omega (arith, length-map P.inputs (λ (i : Input). i.initial), length-map P.nodes (λ (n : Node). n.initial))

  abbrev SpelledAt : ℕ → Expr → Type 0
  SpelledAt c e = Spells expr_bytes (line_at text (channel_line P c)) (initial_at (channels_of index) c) e

  input-spelled : (c : ℕ) {e : Expr} → look of_inputs c ≡ some e → SpelledAt c e
  input-spelled c is = let i = look-mapped (λ (j : Input). j.initial) P.inputs c is in subst (SpelledAt c) (sym i.is) (h.each_input c i.at).initial

  node-spelled : (m : ℕ) {e : Expr} → look of_nodes m ≡ some e → SpelledAt (length P.inputs + m) e
  node-spelled m is = let n = look-mapped (λ (k : Node). k.initial) P.nodes m is in subst (SpelledAt (length P.inputs + m)) (sym n.is) (h.each_node m n.at).channel.initial

  initial-spelled : (c : ℕ) {e : Expr} → look (initial_values P) c ≡ some e → SpelledAt c e
  initial-spelled c {e} is = below_or_not c (length P.inputs) early late
    where
      long : length of_inputs ≡ length P.inputs
      long = length-map P.inputs (λ (i : Input). i.initial)

      early : c < length P.inputs → SpelledAt c e
      early less =
          let there : look of_inputs c ≡ some (get_or of_inputs c (ebool true)) = look_at of_inputs c (ebool true) (omega (arith, less, long)) in
          let same : get_or of_inputs c (ebool true) ≡ e = some-injective _ _ (sym (look-append of_inputs of_nodes c there) ∙ is) in
          input-spelled c (there ∙ ap some same)

      late : length P.inputs ≤ c → SpelledAt c e
      late le =
          let m = c - length P.inputs in
          let place : length of_inputs + m ≡ c = omega (arith, le, long) in
          let back : length P.inputs + m ≡ c = omega (arith, le) in
          subst (λ k. SpelledAt k e) back (node-spelled m (sym (look-past of_inputs of_nodes m) ∙ ap (look (initial_values P)) place ∙ is))

  pub initial-known : (c : ℕ) {e : Expr} → look (initial_values P) c ≡ some e → InitialKnown text index P c e
  initial-known c is = record { less = omega (arith, look-less (initial_values P) c is, initials-long); within = all-at (initials-within h.within) c is; spelled = initial-spelled c is }
