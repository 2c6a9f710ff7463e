-- Names of one digit, by which examples compute.
use Rattle.std.proofs.Common.{◌≡◌, ℕ, ◌+◌, Bool, true, false, cond, ltb, List, [], ◌∷◌, ◌++◌, map, refl, ap}
use Rattle.std.specs.Prelude.{codes}
use Rattle.std.proofs.Math.Path.{fun_ext}
use Rattle.std.proofs.lemmas.Bool.{ltb-true}
use Rattle.std.proofs.lemmas.Fmt.{decimal_digit}
use Rattle.ir_core.specs.declared.functions.Function.{Function}
use Rattle.ir_core.specs.declared.modules.Module.{Module}
use Rattle.ir_types.specs.declared.names.Name.{Name}
use Rattle.ir_types.specs.declared.names.Name.TheVariants.{Text, Number}
use Rattle.ir_core.specs.Functions.{names_of}
use Rattle.ir_rename.specs.Named.{fresh, named, named_all, text_of}
use Rattle.ir_rename.specs.Numbered.{renaming}
use Rattle.ir_rename.specs.Renamed.{rename_function}

abbrev digit : ℕ → List ℕ
digit n = codes "v." ++ (48 + n) ∷ []

abbrev short : ℕ → List ℕ
short n = cond (ltb n 10) (digit n) (text_of n)

short_is : (n : ℕ) → text_of n ≡ short n
short_is n = by (ltb n 10) refl
  where
    by : (b : Bool) → ltb n 10 ≡ b → text_of n ≡ cond b (digit n) (text_of n)
    by true e = ap (λ ds. codes "v." ++ ds) (decimal_digit n (ltb-true n 10 e))
    by false e = refl

abbrev word : List Name → Name → Name
word taken (Text bytes) = Text bytes
word taken (Number n) = Text (fresh taken (short n))

word_is : (taken : List Name) (x : Name) → named taken x ≡ word taken x
word_is taken (Text bytes) = refl
word_is taken (Number n) = ap (λ t. Text (fresh taken t)) (short_is n)

abbrev function_by : (List Name → Name → Name) → Function → Function
function_by w f = rename_function (renaming (names_of f) (map (w (names_of f)) (names_of f))) f

abbrev all_by : (List Name → Name → Name) → Module → Module
all_by w m = record m { functions = map (function_by w) m.functions }

pub by_hand : (m : Module) → named_all m ≡ all_by word m
by_hand m = ap (λ (w : List Name → Name → Name). all_by w m) (fun_ext (λ taken. fun_ext (λ x. word_is taken x)))
