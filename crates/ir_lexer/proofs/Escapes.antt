-- One step of reading a string.
use Rattle.std.proofs.Common.{◌≡◌, ℕ, suc, zero, ◌-◌, List, [], ◌∷◌, ◌++◌, length, take, drop, refl, ap, sym, ◌∙◌, append_assoc}
use Rattle.std.proofs.lemmas.List.{append-nil, take_rest}
use Rattle.ir_lexer.specs.declared.strings.Symbol.{Symbol}
use Rattle.ir_lexer.specs.Strings.{symbol, unescaped, unescaped_after}

-- bytes that belong to what came before say nothing
skipped : (skip : ℕ) (rest : List ℕ) → unescaped_after skip rest ≡ unescaped (drop skip rest)
unfolding unescaped_after
skipped zero [] = refl
skipped (suc skip) [] = refl
skipped zero (b ∷ rest) = refl
skipped (suc skip) (b ∷ rest) = skipped skip rest

unescaped-cons : (b : ℕ) (rest : List ℕ) → unescaped (b ∷ rest) ≡ (symbol b rest).byte ∷ unescaped (drop ((symbol b rest).len - 1) rest)
unfolding unescaped_after
unescaped-cons b rest = ap (λ more. (symbol b rest).byte ∷ more) (skipped ((symbol b rest).len - 1) rest)

unescaped-nil : unescaped [] ≡ []
unfolding unescaped_after
unescaped-nil = refl

-- the string is read to its end
pub ended : (done rest raw : List ℕ) → done ++ unescaped rest ≡ unescaped raw → rest ≡ [] → done ≡ unescaped raw
ended done rest raw same nothing =
    sym (append-nil done) ∙ ap (λ more. done ++ more) (sym unescaped-nil ∙ ap unescaped (sym nothing)) ∙ same

-- one more byte is read
pub stepped : (done more rest raw : List ℕ) (first : ℕ) (after : List ℕ) (s : Symbol) → done ++ unescaped rest ≡ unescaped raw → rest ≡ first ∷ after → s ≡ symbol first after → more ≡ done ++ s.byte ∷ [] → more ++ unescaped (take (length after - (s.len - 1)) (drop (s.len - 1) after)) ≡ unescaped raw
stepped done more rest raw first after s same front is pushed =
    ap (λ front. front ++ unescaped (take (length after - (s.len - 1)) (drop (s.len - 1) after))) pushed
    ∙ append_assoc done (s.byte ∷ []) _
    ∙ ap (λ more. done ++ (s.byte ∷ unescaped more)) (take_rest after (s.len - 1))
    ∙ ap (λ t. done ++ (t.byte ∷ unescaped (drop (t.len - 1) after))) is
    ∙ ap (λ more. done ++ more) (sym (unescaped-cons first after) ∙ ap unescaped (sym front))
    ∙ same
