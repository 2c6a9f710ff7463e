-- Tokens that are seen as of their own kinds are themselves.
use Rattle.std.proofs.Common.{◌≡◌, cond, List, [], ◌∷◌, map, refl, ap, ◌∙◌}
use Rattle.std.proofs.lemmas.Bool.{eq-eqb}
use Rattle.std.proofs.lemmas.List.{length-map}
use Rattle.ir_lexer.specs.declared.token.Token.{Token}
use Rattle.module_grammar.specs.Spelled.{kind_in, symbol_in}
use Rattle.module_grammar.specs.Symbols.{Symbol, foreign, kind_of}
use Rattle.module_grammar.specs.declared.words.Language.{Language}
use Rattle.module_spelling.specs.Context.{AreKinds, all_seen, seen_as}
use Rattle.std.specs.Prelude.{ℕ}

seen_itself : (s : Symbol) → seen_as s (kind_of s) ≡ s
seen_itself s = ap (λ b. cond b s foreign) (eq-eqb (kind_of s) (kind_of s) refl)

pub own_seen : (own : List Symbol) → all_seen own (map kind_of own) ≡ own
own_seen [] = refl
own_seen (s ∷ own) = ap (λ t. t ∷ all_seen own (map kind_of own)) (seen_itself s) ∙ ap (λ ss. s ∷ ss) (own_seen own)

pub own_kinds : (own : List Symbol) → AreKinds own (map kind_of own)
own_kinds own = (length-map own kind_of, ap (map kind_of) (own_seen own))

-- the kinds of small tokens are those of their symbols
pub kinds_are : (language : Language) (text : List ℕ) (tokens : List Token) → map (kind_in language text) tokens ≡ map kind_of (map (symbol_in language text) tokens)
kinds_are language text [] = refl
kinds_are language text (t ∷ ts) = ap (λ ks. kind_in language text t ∷ ks) (kinds_are language text ts)
