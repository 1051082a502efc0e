-- Counts against the limits, and an expression of a channel: what each return gives.
use Rattle.language.specs.declared.refusals.RefusalAt.{RefusalAt}
use Rattle.language.specs.declared.refusals.Refusal.TheVariants.{SizesDisagree}
use Rattle.std.specs.Prelude.{Ok, Err}
use Rattle.size_steps.specs.Outcomes.{Sizing, Refused}
use Rattle.std.specs.Prelude.{ℕ, ◌+◌, ◌*◌, ◌≤◌, ◌<◌, List, [], map, Bool, true, false, ◌≡◌, refl, length, get_or, leb}
use Rattle.std.proofs.Common.{sym, ap₂, ◌∙◌, subst, arith, length-append, leb-true, leb-false}
use Rattle.std.proofs.Math.Path.{ap}
use Rattle.std.proofs.lemmas.List.{length-map}
use Rattle.language.specs.Limits.{types_most, functions_most, inputs_most, nodes_most, channels_most, instances_most}
use Rattle.language.specs.Syntax.{Ty, Expr, Input, Node, File, declared_types, channel_frame}
use Rattle.language.specs.Scope.{outer_scope}
use Rattle.language.specs.Format.{expr_bytes}
use Rattle.language.specs.Within.{all_nil}
use Rattle.language.specs.Sizes.{same_type}
use Rattle.language.specs.Typing.{outside, channels_at, frame_at}
use Rattle.language.specs.Checker.{Instance, sized, sized_channel}
use Rattle.theory.specs.Lists.{look-less, false-is-not-true}
use Rattle.theory.specs.SameTests.{same-type}
use Rattle.text.specs.Places.{past}
use Rattle.index.specs.Tables.{channel_words}
use Rattle.encoding.specs.Spells.{Spells}
use Rattle.encoding.specs.FrameLines.{line_at}
use Rattle.index.specs.declared.Counts.{Counts}
use Rattle.index.specs.Indexed.{channel_line, Counted as CountsAre}
use Rattle.encoding.specs.Known.{outer-known}
use Rattle.sizes.specs.declared.SizedType.{SizedType}
use Rattle.sizes.specs.Promises.{meaning}
use Rattle.index.specs.Sections.{channels_of}
use Rattle.size_steps.specs.declared.Site.{Site}
use Rattle.size_steps.specs.declared.Checked.{Checked}
use Rattle.size_steps.specs.Sites.{around_none, Room}
use Rattle.size_steps.specs.Agreement.{Table, Holds, Agrees, agrees, itself, bind_is, bind-no, need-holds, need-fails}
use Rattle.size_laws.specs.Promises.{Lent, Buffers, buffers, IndexedFile, Here, entering, Sizes, ExprPart}
use Rattle.size_steps.specs.Leaves.{ChannelTyped}
use Rattle.size_laws.specs.HereLaws.{part_at}
use Rattle.size_laws.specs.TurnLaws.{sizes-at}
use Rattle.size_laws.specs.TypesTold.{channel-bounded, channel-typed}
use Rattle.size_laws.specs.FileParts.{Few, Limited, few, many, outer_site, Standing, Named, SizesChannel}

-- ---- counts
module _ {n : Counts} where
  pub many-types : types_most < n.types → Limited n false
  many-types less = many (λ f. omega (arith, less, f.types))

  pub many-functions : functions_most < n.functions → Limited n false
  many-functions less = many (λ f. omega (arith, less, f.functions))

  pub many-inputs : inputs_most < n.inputs → Limited n false
  many-inputs less = many (λ f. omega (arith, less, f.inputs))

  by-nodes : n.types ≤ types_most → n.functions ≤ functions_most → n.inputs ≤ inputs_most → (b : Bool) → leb n.nodes nodes_most ≡ b → Limited n b
  by-nodes types functions inputs true e = few (record { types = types; functions = functions; inputs = inputs; nodes = leb-true _ _ e })
  by-nodes types functions inputs false e = many (λ f. let more : nodes_most < n.nodes = leb-false _ _ e in omega (arith, more, f.nodes))

  pub limited-nodes : n.types ≤ types_most → n.functions ≤ functions_most → n.inputs ≤ inputs_most → Limited n (leb n.nodes nodes_most)
  limited-nodes types functions inputs = by-nodes types functions inputs _ refl

  pub limited-few : {r : Bool} → Limited n r → r ≡ true → Few n
  limited-few (few f) e = f
  limited-few (many f) e = false-is-not-true e

  pub limited-many : {r : Bool} → Limited n r → r ≡ false → Few n → ⊥
  limited-many (few f) e = false-is-not-true (sym e)
  limited-many (many f) e = f

-- ---- room for an expression of a channel
pub room-outer : {n : Counts} {c at used : ℕ} {p : Site} → Few n → c < channels_most → p ≡ outer_site n c at used → Room p.place.levels p
room-outer f less is = rw is (record {
  levels = omega arith;
  under = omega arith;
  line = omega (arith, f.types, f.functions, less);
  variables = omega arith;
  sizes = omega arith;
})

-- ---- an expression of channel c
module _ {t : Lent} {list : Table} {scope sizes : List ℕ} {n : Counts} {c word at used : ℕ} {p : Site} {x : Sizing} {b : Buffers}
    (here : at ≡ get_or (channels_of t.index) (channel_words * c + word) 0) (place : p ≡ outer_site n c at used) (u : Sizes ExprPart t (buffers list scope sizes) p x b) where
  -- the expression as the definition has it
  module _ (P : File) (i : IndexedFile t P) (k : CountsAre n P) (C : List Ty) (named : Named P C) (e : Expr) (τ : Ty) (s : Standing t P word c e τ) (L : List Instance) (h : Holds P list used L) where
    line-is : channel_line P c ≡ n.types + n.functions + c
    line-is = omega (arith, k.type_count, k.function_count)

    below : c < length P.inputs + length P.nodes
    below = omega (
      arith,
      look-less (declared_types P) c s.declared,
      length-append (map (λ (j : Input). j.declared) P.inputs) (map (λ (m : Node). m.declared) P.nodes),
      length-map P.inputs (λ (j : Input). j.declared),
      length-map P.nodes (λ (m : Node). m.declared),
    )

    channel-here : Here t (buffers list scope sizes) (outer_site n c at used) P (outer_scope P.types P.functions s.channels) (outside (channel_frame P c) C) [] [] L instances_most
    unfolding channels_at frame_at outer_scope
    channel-here = record {
      indexed = i;
      site = record {
        known = outer-known P s.channels;
        channels = named;
        frame = omega (arith, line-is);
        line = omega (arith, line-is, below);
        around = around_none (omega (arith, line-is));
        variables = refl;
        variables_in = refl;
        types = refl;
        small = all_nil;
        size_count = refl;
        sizes_in = refl;
        sizes_are = refl;
      };
      holds = h;
      deep = omega arith;
    }

    channel-agrees : Agrees P itself (past (line_at t.text (channel_line P c)) (get_or (channels_of t.index) (channel_words * c + word) 0) (length (expr_bytes e))) b.list x (sized P (entering P instances_most) e (outside (channel_frame P c) C) [] [] L)
    channel-agrees = subst (λ m. Agrees P itself (past (line_at t.text m) (get_or (channels_of t.index) (channel_words * c + word) 0) (length (expr_bytes e))) b.list x (sized P (entering P instances_most) e (outside (channel_frame P c) C) [] [] L)) (sym line-is)
        ((sizes-at place u).says P _ (outside (channel_frame P c) C) [] [] L instances_most channel-here _ e
        (part_at (outer_site n c at used) (subst (λ m. Spells expr_bytes (line_at t.text m) (get_or (channels_of t.index) (channel_words * c + word) 0) e) line-is s.spelled) s.within here refl))

    -- the type that was found, against the declared one
    test-is : {σ : Ty} {ty : SizedType} {r : Bool} (found : SizedType) → ChannelTyped t.index c ty → r ≡ same_type (meaning found) (meaning ty) → meaning found ≡ σ → same_type σ τ ≡ r
    test-is found typed same type = ap₂ same_type (sym type) (sym (channel-typed {t = t} i c s.declared typed)) ∙ sym same

  pub channel-refused : {why : RefusalAt} → x ≡ Err why → SizesChannel t list n c word used x b.list
  unfolding sized_channel
  channel-refused d = record { says = λ P i k C named e τ s L h. bind-no _ (channel-agrees P i k C named e τ s L h) d d }

  module _ {a : Checked} {ty : SizedType} {r : Bool} (d : x ≡ Ok a) (typed : ChannelTyped t.index c ty) (same : r ≡ same_type (meaning a.ty) (meaning ty)) where
    pub channel-differs : r ≡ false → SizesChannel t list n c word used (Refused SizesDisagree (p.place.line + 1)) b.list
    unfolding sized_channel
    channel-differs no-match = record {
      says = λ P i k C named e τ s L h. bind_is _ (channel-agrees P i k C named e τ s L h) d (λ y g.
          need-fails _ (test-is P i k C named e τ s L h a.ty typed same g.type ∙ no-match)
          (ap (λ z. Refused SizesDisagree (z.place.line + 1)) place ∙ ap (λ m. Refused SizesDisagree (m + 1)) (sym (line-is P i k C named e τ s L h))));
    }

    pub channel-done : {z : Sizing} → r ≡ true → z ≡ Ok a → SizesChannel t list n c word used z b.list
    unfolding sized_channel
    channel-done match answer = record {
      says = λ P i k C named e τ s L h. bind_is _ (channel-agrees P i k C named e τ s L h) d (λ y g.
          need-holds 11 (channel_frame P c) (test-is P i k C named e τ s L h a.ty typed same g.type ∙ match)
          (agrees answer (record {
            type = g.type ∙ same-type _ _ (test-is P i k C named e τ s L h a.ty typed same g.type ∙ match);
            small = channel-bounded {t = t} i c s.declared;
            numbers = g.numbers;
            ends = g.ends;
            holds = g.holds;
          })));
    }
