-- The tokens that a text is cut into are those that its small tokens are in it.
use Rattle.std.proofs.Common.{◌≡◌, ℕ, List, [], ◌∷◌, map, Ok, Err, refl, ap, sym, ◌∙◌}
use Rattle.ir_lexer.specs.declared.token.Token.{Token}
use Rattle.ir_lexer.specs.Cut.{AreThoseOf, Cut, Placed, token, unsaid}
use Rattle.ir_lexer.specs.Said.{said_in}
use Rattle.module_grammar.specs.declared.words.Language.{Language}
use Rattle.module_grammar.specs.Spelled.{kind_in, kind_of_token, placed_in, symbol, symbol_in}

placed_are : (text : List ℕ) (tokens : List Token) (placed : List Placed) → tokens ≡ map unsaid placed → map (said_in text) tokens ≡ map (λ (t : Placed). t.kind) placed → map (placed_in text) tokens ≡ placed
placed_are text [] [] are say = refl
placed_are text [] (p ∷ ps) are say = cc
placed_are text (t ∷ ts) [] are say = cc
placed_are text (t ∷ ts) (p ∷ ps) are say =
    let first : t ≡ unsaid p = cc in
    let others : ts ≡ map unsaid ps = cc in
    let says : said_in text t ≡ p.kind = cc in
    let say_others : map (said_in text) ts ≡ map (λ (t : Placed). t.kind) ps = cc in
    let same : placed_in text t ≡ p = ap (λ k. token k t.start t.end) says ∙ ap (λ (u : Token). token p.kind u.start u.end) first in
    ap (λ (q : Placed). q ∷ map (placed_in text) ts) same ∙ ap (λ qs. p ∷ qs) (placed_are text ts ps others say_others)

pub are_placed : (text : List ℕ) (tokens : List Token) (whole : Cut) → AreThoseOf text tokens whole → whole ≡ Ok (map (placed_in text) tokens)
are_placed text tokens (Ok placed) those = ap Ok (sym (placed_are text tokens placed those.0 those.1))
are_placed text tokens (Err fault) those = absurd those

module _ (language : Language) (text : List ℕ) where
  pub symbols_in : (tokens : List Token) → map (symbol_in language text) tokens ≡ map (symbol language text) (map (placed_in text) tokens)
  symbols_in [] = refl
  symbols_in (t ∷ ts) = ap (λ ss. symbol_in language text t ∷ ss) (symbols_in ts)

  pub kinds_in : (tokens : List Token) → map (kind_in language text) tokens ≡ map (kind_of_token language text) (map (placed_in text) tokens)
  kinds_in [] = refl
  kinds_in (t ∷ ts) = ap (λ ks. kind_in language text t ∷ ks) (kinds_in ts)

  -- the symbols of a text's small tokens are those of the tokens that it is cut into
  pub symbols_are : (tokens : List Token) (placed : List Placed) → AreThoseOf text tokens (Ok placed) → map (symbol_in language text) tokens ≡ map (symbol language text) placed
  symbols_are tokens placed those = symbols_in tokens ∙ ap (map (symbol language text)) (placed_are text tokens placed those.0 those.1)
