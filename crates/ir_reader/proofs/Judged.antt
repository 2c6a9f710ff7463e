-- The first fault and the first place of a large block, told as one.
use Rattle.std.proofs.Common.{◌≡◌, ◌≤◌, ◌<◌, ℕ, Bool, true, false, cond, List, [], ◌∷◌, Option, None, Some, refl, sym, subst, arith}
use Rattle.std.specs.Prelude.{◌↔◌, IfSome, nat_lt}
use Rattle.std.specs.List.{Contains}
use Rattle.std.proofs.lemmas.Bool.{ltb-false, ltb-true}
use Rattle.ir_types.specs.declared.names.Name.{Name}
use Rattle.fault_walk.specs.First.{IsFirst}
use Rattle.module_grammar.specs.declared.functions.DeclaredText.{DeclaredText}
use Rattle.module_grammar.specs.declared.items.ModuleText.{ModuleText}
use Rattle.module_grammar.specs.declared.places.Placed.{Placed}
use Rattle.module_grammar.specs.declared.types.CalledText.{CalledText}
use Rattle.module_spelling.specs.Faults.{IsFirstOf}
use Rattle.name_claims.specs.declared.claims.Fault.{Fault}
use Rattle.name_claims.specs.Faults.{before}
use Rattle.named_modules.specs.Faults.{faults_of}
use Rattle.ir_reader.specs.Naming.{IsJudged, first_of, large_in}
use Rattle.ir_reader.specs.declared.misnamed.Misnamed.{Misnamed}
use Rattle.ir_reader.specs.declared.misnamed.Misnamed.TheVariants as misnamed

-- ---- what is first

none_in : {T : Type 0} (xs : List T) (x : T) → xs ≡ [] → Contains xs x → ⊥
none_in [] x is has = absurd (omega (arith, has.1))
none_in (y ∷ ys) x is has = cc

not_behind : (f g : Fault) → before g f ≡ false → f.start ≤ g.start
not_behind f g e = go (nat_lt g.start f.start) refl e
  where
    go : (less : Bool) → nat_lt g.start f.start ≡ less → before g f ≡ false → f.start ≤ g.start
    go true l e = cc
    go false l e = ltb-false g.start f.start l

module _ (stated : Placed Name → CalledText) (params : Placed Name → DeclaredText) (w : ModuleText) where
  abbrev faults : List Fault
  faults = faults_of stated params w

  abbrev places : List ℕ
  places = large_in params w

  both : (f : Fault) (place : ℕ) (less : Bool) → nat_lt place f.start ≡ less → IsFirstOf faults f → IsFirst places (Some place)
      → IsJudged stated params w (Some (cond less misnamed.Block (misnamed.Fault f)))
  both f place true e first large = (
    place,
    large.0,
    λ g has. let less : place < f.start = ltb-true place f.start e in
        let upto : f.start ≤ g.start = not_behind f g (first.1 g has) in omega (arith, less, upto),
  )
  both f place false e first large = (
    first,
    λ q has. let from : f.start ≤ place = ltb-false place f.start e in
        let behind : place ≤ q = large.1 q has in omega (arith, from, behind),
  )

  judged : (fault : Option Fault) (large : Option ℕ) → ((fault ≡ None) ↔ (faults ≡ [])) → IfSome fault (IsFirstOf faults) → IsFirst places large
      → IsJudged stated params w (first_of fault large)
  judged None None none first large = (none.0 refl, large)
  judged None (Some place) none first large = (place, large.0, λ f has. absurd (none_in faults f (none.0 refl) has))
  judged (Some f) None none first large = (first, λ place has. absurd (none_in places place large has))
  judged (Some f) (Some place) none first large = both f place (nat_lt place f.start) refl first large

pub judged_by : (stated : Placed Name → CalledText) (params : Placed Name → DeclaredText) (w : ModuleText) (fault : Option Fault) (large : Option ℕ) (told : Option Misnamed)
    → told ≡ first_of fault large → ((fault ≡ None) ↔ (faults_of stated params w ≡ [])) → IfSome fault (IsFirstOf (faults_of stated params w)) → IsFirst (large_in params w) large
    → IsJudged stated params w told
judged_by stated params w fault large told is none first places = subst (IsJudged stated params w) (sym is) (judged stated params w fault large none first places)
