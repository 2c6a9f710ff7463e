-- What is told of a file, carried over to the bytes that were read.
use Rattle.std.proofs.Common.{◌≡◌, ◌≢◌, ℕ, List, [], ◌∷◌, subst, refl}
use Rattle.crell_io.specs.Shelf.{Told, IfTold, IsBytesAnd}
use Rattle.crell_io.specs.Shelf.Told.{Untold, NoSuch, Bytes}
use Rattle.crell_program.specs.Command.{File}
use Rattle.crell_program.specs.Statuses.{NoneIsAbsent, IfAllTold}

pub if_told : (told : Told) (bytes : List ℕ) (P : List ℕ → Type 0) → IfTold told (λ held. bytes ≡ held) → P bytes → IfTold told P
if_told Untold bytes P e p = tt
if_told NoSuch bytes P e p = absurd e
if_told (Bytes held) bytes P e p = subst P e p

-- these are the bytes of the files, wherever they are told
abbrev pub TellsAll : (List ℕ → Told) → List File → List (List ℕ) → Type 0
TellsAll told [] [] = Unit {0}
TellsAll told (file ∷ files) (text ∷ texts) = IfTold (told file.name) (λ held. text ≡ held) × TellsAll told files texts
TellsAll told [] (text ∷ texts) = ⊥
TellsAll told (file ∷ files) [] = ⊥

pub if_all_told : (told : List ℕ → Told) (files : List File) (texts : List (List ℕ)) (P : List (List ℕ) → Type 0) → TellsAll told files texts → P texts
    → IfAllTold told files P
if_all_told told [] [] P all p = p
if_all_told told (file ∷ files) (text ∷ texts) P all p =
    if_told (told file.name) text (λ t. IfAllTold told files (λ ts. P (t ∷ ts))) all.0 (if_all_told told files texts (λ ts. P (text ∷ ts)) all.1 p)
if_all_told told [] (text ∷ texts) P all p = absurd all
if_all_told told (file ∷ files) [] P all p = absurd all

-- what is told of a file that was read isn't that it is absent
pub not_absent : (told : Told) (bytes : List ℕ) → IfTold told (λ held. bytes ≡ held) → told ≢ NoSuch
not_absent told bytes same e =
    let P : Told → Type 0 = λ t. IfTold t (λ held. bytes ≡ held) in
    let none : ⊥ = subst P e same in
    none

-- contents that are told have a name
pub told_bytes : (told : Told) (P : List ℕ → Type 0) → IsBytesAnd told P → (held : List ℕ) × (told ≡ Bytes held) × P held
told_bytes Untold P p = absurd p
told_bytes NoSuch P p = absurd p
told_bytes (Bytes held) P p = (held, refl, p)

pub none_absent : (told : List ℕ → Told) (files : List File) (texts : List (List ℕ)) → TellsAll told files texts → NoneIsAbsent told files
none_absent told [] texts all = tt
none_absent told (file ∷ files) (text ∷ texts) all = (not_absent (told file.name) text all.0, none_absent told files texts all.1)
none_absent told (file ∷ files) [] all = absurd all
