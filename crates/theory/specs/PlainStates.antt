-- A value of a type with a size is a value of its plain type, so a valid state has a plain value for each channel.
use Rattle.std.specs.Prelude.{ℕ, List, map, refl}
use Rattle.language.specs.Syntax.{Field, pnamed, Ty, File}
use Rattle.language.specs.PlainTypes.{plain_field, plain_fields, plain_declared}
use Rattle.language.specs.Heap.{Cell}
use Rattle.theory.specs.HeapValues.{Has, h_bool, h_int, h_named, Val, v_con, Vals, vs_nil, vs_bool, vs_int, vs_own, vs_other, Env, env_nil, env_cons}
use Rattle.theory.specs.PlainValues.{PlainValue, v_bool as plain-bool, v_int as plain_int, v_con as plain-con, PlainValues, vs_nil as plain-nil, vs_cons as plain-cons}

module _ {P : File} {h : List Cell} where
  mutual
    unfolding plain_declared plain_field

    pub has-plain : {l : ℕ} {τ : Ty} → Has P h l τ → PlainValue P h l (plain_declared τ)
    has-plain (h_bool e) = plain-bool e
    has-plain (h_int e less) = plain_int e
    has-plain (h_named v le) = val-plain v

    val-plain : {l t j : ℕ} → Val P h l t j → PlainValue P h l (pnamed t)
    val-plain (v_con e known vs size) = plain-con e known refl (vals-plain vs)

    vals-plain : {b t : ℕ} {fs : List Field} {ls ks : List ℕ} → Vals P h b t fs ls ks → PlainValues P h ls (plain_fields t fs)
    vals-plain vs_nil = plain-nil
    vals-plain (vs_bool low v vs) = plain-cons (has-plain v) (vals-plain vs)
    vals-plain (vs_int low v vs) = plain-cons (has-plain v) (vals-plain vs)
    vals-plain (vs_own low v vs) = plain-cons (val-plain v) (vals-plain vs)
    vals-plain (vs_other low v vs) = plain-cons (has-plain v) (vals-plain vs)

  pub env-plain : {ls : List ℕ} {τs : List Ty} → Env P h ls τs → PlainValues P h ls (map plain_declared τs)
  env-plain env_nil = plain-nil
  env-plain (env_cons v vs) = plain-cons (has-plain v) (env-plain vs)
