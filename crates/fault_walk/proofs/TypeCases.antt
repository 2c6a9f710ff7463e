-- What is told of each kind of type.
use Rattle.std.proofs.Common.{◌≡◌, ◌∙◌, ℕ, Bool, List, [], ◌∷◌, ◌++◌, refl, sym, ap}
use Rattle.std.proofs.lemmas.List.Folds.{flat_map-map}
use Rattle.std.specs.List.{flat_map}
use Rattle.ir_core.specs.NameIndexes.Among.{is_among}
use Rattle.ir_lexer.specs.declared.token.Number.{Number}
use Rattle.ir_types.specs.declared.names.Name.{Name}
use Rattle.module_derivations.specs.Empty.{no_type}
use Rattle.module_grammar.specs.Joined.{pointers_to}
use Rattle.module_grammar.specs.declared.places.Placed.{Placed}
use Rattle.module_grammar.specs.declared.types.TypeText.{TypeText, Array, Int, Named, Ptr, Struct}
use Rattle.name_claims.specs.declared.claims.Fault.{Fault}
use Rattle.name_claims.specs.declared.claims.Reason.TheVariants as reason
use Rattle.named_modules.specs.Faults.{Heads, at, first_at_level, first_of, type_faults, type_faults_at_level, type_names, unless}
use Rattle.named_modules.specs.Types.{is_count}
use Rattle.named_modules.proofs.TypeKinds as kind
use Rattle.fault_walk.specs.Told.{faults_more, told_more}
use Rattle.fault_walk.specs.declared.told.Told.{Told}
use Rattle.fault_walk.proofs.Joined.{faults_joined}

-- ---- where its first token stands

pub first_int : (width : Placed ℕ) → first_of (Int width) ≡ width.start
first_int width = kind.at_int ℕ first_at_level width

pub first_named : (x : Placed Name) → first_of (Named x) ≡ x.start
first_named x = kind.at_named ℕ first_at_level x

first_ptr : (star : ℕ) (t : TypeText) → first_of (Ptr star t) ≡ first_of t
first_ptr star t = kind.at_ptr ℕ first_at_level star t

pub first_array : (start : ℕ) (c : Placed Number × TypeText) → first_of (Array start c) ≡ start
first_array start c = kind.at_array ℕ first_at_level start c.0 c.1

pub first_struct : (start : ℕ) (ts : List TypeText) → first_of (Struct start ts) ≡ start
first_struct start ts = kind.at_struct ℕ first_at_level start ts

pub first_pointers : (t : TypeText) (stars : List ℕ) → first_of (pointers_to t stars) ≡ first_of t
first_pointers t [] = refl
first_pointers t (at ∷ more) = first_pointers (Ptr at t) more ∙ first_ptr at t

pub first_nothing : first_of no_type ≡ 0
first_nothing = kind.at_int ℕ first_at_level _

-- ---- what is at fault

module _ (h : Heads) where
  pub of_int : (width : Placed ℕ) → type_faults h (Int width) ≡ []
  of_int width = kind.at_int (List Fault) (type_faults_at_level h) width

  pub of_nothing : type_faults h no_type ≡ []
  of_nothing = of_int _

  pub of_named : (x : Placed Name) → type_faults h (Named x) ≡ unless (is_among x.what (type_names h.types)) (at x reason.Unknown)
  of_named x = kind.at_named (List Fault) (type_faults_at_level h) x

  pub of_array : (start : ℕ) (c : Placed Number × TypeText)
      → type_faults h (Array start c) ≡ unless (is_count c.0.what) (at c.0 reason.WrongType) ++ type_faults h c.1
  of_array start c = kind.at_array (List Fault) (type_faults_at_level h) start c.0 c.1

  pub of_struct : (start : ℕ) (ts : List TypeText) → type_faults h (Struct start ts) ≡ flat_map (type_faults h) ts
  of_struct start ts = kind.at_struct (List Fault) (type_faults_at_level h) start ts ∙ flat_map-map (λ fs. fs) (type_faults h) ts

  pub of_pointers : (w : TypeText) (stars : List ℕ) → type_faults h (pointers_to w stars) ≡ type_faults h w
  of_pointers w [] = refl
  of_pointers w (at ∷ more) = of_pointers (Ptr at w) more ∙ kind.at_ptr (List Fault) (type_faults_at_level h) at w

  -- as it is found
  pub array_found : (start : ℕ) (count counted : Placed Number) (w element : TypeText) (fits : Bool) (fault : Fault) (before middle now : Told)
      → count ≡ counted → w ≡ element → fits ≡ is_count count.what → fault ≡ at count reason.WrongType → middle ≡ faults_more (unless fits fault) before
      → now ≡ told_more h (type_faults h w) [] middle → now ≡ told_more h (type_faults h (Array start (counted, element))) [] before
  array_found start count counted w element fits fault before middle now counts stands fit at_fault first second =
      second ∙ ap (λ v. told_more h (type_faults h v) [] middle) stands
      ∙ ap (λ m. told_more h (type_faults h element) [] m)
      (first ∙ ap (λ b. faults_more (unless b fault) before) (fit ∙ ap (λ (n : Placed Number). is_count n.what) counts)
      ∙ ap (λ f. faults_more (unless (is_count counted.what) f) before) (at_fault ∙ ap (λ (n : Placed Number). at n reason.WrongType) counts))
      ∙ sym (ap (λ fs. told_more h fs [] before) (of_array start (counted, element))
      ∙ faults_joined h (unless (is_count counted.what) (at counted reason.WrongType)) (type_faults h element) before)
