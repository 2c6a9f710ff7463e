-- What a reader of JSON answers.
use Rattle.std.specs.Prelude.{◌≡◌, ◌⊎◌, ℕ, List, Some, None, Result, Ok, Err, MatchResult, IsUtf8}
use Rattle.serde_json.specs.Data.{Data}
use Rattle.serde_json.specs.Read.{read}
use Rattle.json_forms.specs.declared.failure.Fault.{Fault}
use Rattle.json_forms.specs.Faults.{here, within}
use Rattle.json_forms.specs.declared.failure.Failure.{Failure}
use Rattle.json_forms.specs.declared.failure.Failure.TheVariants.{Form}

-- the fault that is due, or want of memory, of which nothing is said
abbrev pub Fails : {A : Type 0} → Failure → Result A Fault → Type 0
Fails failure due = (fault : Fault) → failure ≡ Form fault → due ≡ Err fault

-- The value or the fault that is due: where `Ok 7` is due, 7 comes, or `Memory`.
abbrev pub Answers : {A : Type 0} → Result A Failure → Result A Fault → Type 0
Answers result due = MatchResult result (λ a. due ≡ Ok a) (λ failure. Fails failure due)

-- The failure of what lies there, seen from outside: `/0` within `/from` is `/from/0`.
abbrev pub IsMoved : List ℕ → Failure → Failure → Type 0
IsMoved step inside failure = (fault : Fault) → failure ≡ Form fault → (inner : Fault) × (inside ≡ Form inner) × (fault ≡ within step inner)

-- ---- a file's bytes

-- the bytes are a JSON text, which is this value
abbrev pub IsJson : List ℕ → Data → Type 0
IsJson bytes d = IsUtf8 bytes × (read bytes ≡ Some d)

-- the bytes are no JSON text, as `{"format":1,`
abbrev pub IsNoJson : List ℕ → Type 0
IsNoJson bytes = IsUtf8 bytes → read bytes ≡ None

-- What bytes are read as under a form: what it says of their value, or that they are at fault as a whole, with the empty path.
abbrev pub IsReading : {A : Type 0} → (Data → Result A Fault) → List ℕ → Result A Fault → Type 0
IsReading form bytes due = ((d : Data) × IsJson bytes d × (form d ≡ due)) ⊎ (IsNoJson bytes × (due ≡ Err here))

-- a reader of bytes answers so, or tells want of memory
abbrev pub AnswersBytes : {A : Type 0} → Result A Failure → (Data → Result A Fault) → List ℕ → Type 0
AnswersBytes result form bytes =
    MatchResult result (λ a. IsReading form bytes (Ok a)) (λ failure. (fault : Fault) → failure ≡ Form fault → IsReading form bytes (Err fault))
