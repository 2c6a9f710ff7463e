-- What doesn't fit first.
use Rattle.std.proofs.Common.{◌≡◌, ◌∙◌, ◌<◌, ◌≤◌, ◌+◌, ℕ, suc, Bool, true, false, List, [], ◌∷◌, length, get_or, drop, Option, None, Some, refl, ap, add-one}
use Rattle.std.specs.List.{AllByRecursion}
use Rattle.std.specs.Option.{option_or}
use Rattle.ir_core.specs.declared.functions.Param.{Param}
use Rattle.ir_core.specs.Types.{kind_of}
use Rattle.block_memory.specs.declared.items.Shown.{Shown}
use Rattle.block_memory.specs.Names.{Names}
use Rattle.std.proofs.Math.ListN.{drop_of_length-le}
use Rattle.ir_machine.specs.declared.inputs.InputPath.{InputPath}
use Rattle.ir_machine.specs.Starting.{argument_misfit, arguments_misfit, first_of, unless}
use Rattle.ir_machine.proofs.Standing.{drop_at}

pub unless_none : (b : Bool) (place : InputPath) → unless b place ≡ None → b ≡ true
unless_none true place h = refl
unless_none false place h = absurd (cc)

pub or_none : {A : Type 0} (o p : Option A) → option_or o p ≡ None → (o ≡ None) × (p ≡ None)
or_none None p h = (refl, h)
or_none (Some x) p h = absurd (cc)

pub all_fit : {A : Type 0} (P : A → Type 0) (one : ℕ → A → Option InputPath) → ((at : ℕ) (x : A) → one at x ≡ None → P x)
    → (at : ℕ) (xs : List A) → first_of one at xs ≡ None → AllByRecursion P xs
all_fit P one fit at [] h = tt
all_fit P one fit at (x ∷ xs) h =
    let parts = or_none (one at x) (first_of one (suc at) xs) h in
    (fit at x parts.0, all_fit P one fit (suc at) xs parts.1)

module _ {A : Type 0} (one : ℕ → A → Option InputPath) (xs : List A) (i : ℕ) (x : A) (within : i < length xs) (is : x ≡ get_or xs i x) where
  pub first_later : one i x ≡ None → first_of one i (drop i xs) ≡ first_of one (i + 1) (drop (i + 1) xs)
  first_later none = rw (drop_at xs i x within is, none, add-one) refl

  pub first_here : (path : InputPath) → one i x ≡ Some path → first_of one i (drop i xs) ≡ Some path
  first_here path some = rw (drop_at xs i x within is, some) refl

module _ (names : Names) (ps : List Param) (args : List Shown) (i : ℕ) (p : Param) (a : Shown)
    (within : i < length ps) (is : p ≡ get_or ps i p) (given : i < length args) (told : a ≡ get_or args i a) where
  pub argument_later : argument_misfit names (kind_of p.ty) a i ≡ None
      → arguments_misfit names i (drop i ps) (drop i args) ≡ arguments_misfit names (i + 1) (drop (i + 1) ps) (drop (i + 1) args)
  argument_later none = rw (drop_at ps i p within is, drop_at args i a given told, none, add-one) refl

  pub argument_here : (path : InputPath) → argument_misfit names (kind_of p.ty) a i ≡ Some path
      → arguments_misfit names i (drop i ps) (drop i args) ≡ Some path
  argument_here path some = rw (drop_at ps i p within is, drop_at args i a given told, some) refl

no_arguments : (names : Names) (at : ℕ) (ps : List Param) → arguments_misfit names at ps [] ≡ None
no_arguments names at [] = refl
no_arguments names at (p ∷ ps) = refl

pub arguments_end : (names : Names) (ps : List Param) (args : List Shown) (i : ℕ) → length args ≤ i → arguments_misfit names i (drop i ps) (drop i args) ≡ None
arguments_end names ps args i past = ap (arguments_misfit names i (drop i ps)) (drop_of_length-le args past) ∙ no_arguments names i (drop i ps)
