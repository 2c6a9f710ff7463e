-- What is noted of the counts of each kind of type.
use Rattle.std.proofs.Common.{◌≡◌, ◌∙◌, ℕ, List, [], ◌∷◌, ap, refl, Option}
use Rattle.std.proofs.lemmas.List.Folds.{flat_map-map}
use Rattle.std.specs.List.{flat_map}
use Rattle.expression_reader.proofs.Joined.{noted_joined}
use Rattle.expression_reader.specs.Types.{count_faults, count_faults_at_level}
use Rattle.fault_walk.specs.Told.{noted}
use Rattle.ir_lexer.specs.declared.token.Number.{Number}
use Rattle.module_grammar.specs.Joined.{pointers_to}
use Rattle.module_grammar.specs.declared.places.Placed.{Placed}
use Rattle.module_grammar.specs.declared.types.TypeText.{TypeText, Ptr, Array, Struct}
use Rattle.name_claims.specs.declared.claims.Fault.{Fault}
use Rattle.name_claims.specs.declared.claims.Reason.TheVariants as reason
use Rattle.named_modules.proofs.TypeKinds as kind
use Rattle.named_modules.specs.Faults.{at, unless}
use Rattle.named_modules.specs.Types.{is_count}

-- stars have no counts
pub of_pointers : (t : TypeText) (stars : List ℕ) → count_faults (pointers_to t stars) ≡ count_faults t
of_pointers t [] = refl
of_pointers t (at ∷ more) = of_pointers (Ptr at t) more ∙ kind.at_ptr (List Fault) count_faults_at_level at t

abbrev from_list : Option Fault → List Fault → Option Fault
from_list told fs = noted fs told

pub of_array : (start : ℕ) (c : Placed Number × TypeText) (told : Option Fault)
    → noted (count_faults (Array start c)) told ≡ noted (count_faults c.1) (noted (unless (is_count c.0.what) (at c.0 reason.WrongType)) told)
of_array start c told =
    ap (from_list told) (kind.at_array (List Fault) count_faults_at_level start c.0 c.1)
    ∙ noted_joined (unless (is_count c.0.what) (at c.0 reason.WrongType)) (count_faults c.1) told

pub of_struct : (start : ℕ) (ts : List TypeText) (told : Option Fault) → noted (count_faults (Struct start ts)) told ≡ noted (flat_map count_faults ts) told
of_struct start ts told =
    ap (from_list told) (kind.at_struct (List Fault) count_faults_at_level start ts ∙ flat_map-map (λ fs. fs) count_faults ts)
