-- What is built where a number is due is the same where the number is counted up to the greatest one.
use Rattle.std.proofs.Common.{◌≡◌, ◌∙◌, ◌+◌, ◌<◌, ◌^◌, ℕ, Bool, true, false, cond, List, [], ◌∷◌, Option, None, Some, nat_lt, refl, sym, ap, arith, ltb-true}
use Rattle.std.proofs.lemmas.Bool.{ltb-false}
use Rattle.ir_core.specs.declared.functions.Param.{Param}
use Rattle.ir_types.specs.declared.names.Name.{Name}
use Rattle.ir_types.specs.declared.names.Name.TheVariants as name
use Rattle.module_grammar.specs.declared.functions.ParamText.{ParamText}
use Rattle.module_grammar.specs.declared.places.Placed.{Placed}
use Rattle.named_modules.specs.Built.{due_after, due_behind, due_from, name_due, params_from}
use Rattle.module_walk.specs.Counted.{capped, param_at}

pub capped_is : (n : ℕ) → n < 2 ^ 64 → n ≡ capped n
capped_is n less = omega arith

-- what is the same for a number and for what is counted of it is the same for two of which the same is counted
pub alike : {A : Type 0} (f : ℕ → A) → ((d : ℕ) → f (capped d) ≡ f d) → (x y : ℕ) → capped x ≡ capped y → f x ≡ f y
alike f law x y e = sym (law x) ∙ ap f e ∙ law y

pub number_capped : (d : ℕ) → cond (nat_lt (capped d) (2 ^ 32)) (capped d) 0 ≡ cond (nat_lt d (2 ^ 32)) d 0
number_capped d = by (nat_lt d (2 ^ 32)) (nat_lt (capped d) (2 ^ 32)) refl refl
  where
    by : (a b : Bool) → nat_lt d (2 ^ 32) ≡ a → nat_lt (capped d) (2 ^ 32) ≡ b → cond b (capped d) 0 ≡ cond a d 0
    by true true e f = let less : d < 2 ^ 32 = ltb-true d (2 ^ 32) e in omega arith
    by true false e f = let less : d < 2 ^ 32 = ltb-true d (2 ^ 32) e in let more = ltb-false (capped d) (2 ^ 32) f in absurd (omega (arith, more))
    by false true e f = let less : capped d < 2 ^ 32 = ltb-true (capped d) (2 ^ 32) f in let more = ltb-false d (2 ^ 32) e in absurd (omega (arith, more))
    by false false e f = refl

pub name_capped : (d : ℕ) (w : Option (Placed Name)) → name_due (capped d) w ≡ name_due d w
name_capped d None = ap name.Number (number_capped d)
name_capped d (Some w) = refl

pub twice_capped : (d : ℕ) → capped (capped d) ≡ capped d
twice_capped d = omega arith

next_capped : (d : ℕ) → capped (capped d + 1) ≡ capped (d + 1)
next_capped d = omega arith

after_capped : (d : ℕ) (x : Name) → capped (due_after (capped d) x) ≡ capped (due_after d x)
after_capped d (name.Text bytes) = twice_capped d
after_capped d (name.Number n) = next_capped d

pub behind_capped : (d : ℕ) (w : Option (Placed Name)) → capped (due_behind (capped d) w) ≡ capped (due_behind d w)
behind_capped d None = next_capped d
behind_capped d (Some w) = after_capped d w.what

pub from_capped : (d : ℕ) (ws : List (Option (Placed Name))) → capped (due_from (capped d) ws) ≡ capped (due_from d ws)
from_capped d [] = twice_capped d
from_capped d (w ∷ ws) = alike (λ n. capped (due_from n ws)) (λ n. from_capped n ws) (due_behind (capped d) w) (due_behind d w) (behind_capped d w)

pub params_capped : (d : ℕ) (ws : List ParamText) → params_from (capped d) ws ≡ params_from d ws
params_capped d [] = refl
params_capped d (w ∷ ws) =
    ap (λ (x : Name). let p : Param = record (param_at d w) { name = x } in p ∷ params_from (due_behind (capped d) w.name) ws) (name_capped d w.name)
    ∙ ap (λ ps. param_at d w ∷ ps) (alike (λ n. params_from n ws) (λ n. params_capped n ws) (due_behind (capped d) w.name) (due_behind d w.name) (behind_capped d w.name))
