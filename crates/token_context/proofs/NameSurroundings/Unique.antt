-- What is balanced ends at one place.
use Rattle.std.proofs.Common.{◌≡◌, ℕ, List, ◌∷◌, ◌++◌, true, refl, ap, sym, ◌∙◌, append_assoc}
use Rattle.std.proofs.lemmas.List.{append_cancel_left}
use Rattle.module_grammar.specs.Balanced.{IsBalanced, nothing, token, parens, brackets, braces, is_plain}
use Rattle.module_grammar.specs.Symbols.{Symbol, Bracket, Brace, close_brace, close_bracket, close_paren, kind_of, open_paren}
use Rattle.token_context.proofs.Classes.{plain_class}
use Rattle.token_context.specs.Brackets.{class_of}
use Rattle.token_context.specs.declared.brackets.Class.{Class}
use Rattle.token_context.specs.declared.brackets.Class.TheVariants.{Opens, Closes, Plain}

abbrev pub IsCloser : Symbol → Type 0
IsCloser c = (o : ℕ) × (class_of (kind_of c) ≡ Closes o)

closer_is : (c s : Symbol) (o : ℕ) (k : Class) → class_of (kind_of c) ≡ Closes o → c ≡ s → class_of (kind_of s) ≡ k → Closes o ≡ k
closer_is c s o k h e f = sym h ∙ ap (λ t. class_of (kind_of t)) e ∙ f

not_plain : (c s : Symbol) → IsCloser c → is_plain s ≡ true → c ≡ s → ⊥
not_plain c s h plain e = let differ : Closes h.0 ≡ Plain = closer_is c s h.0 Plain h.1 e (plain_class (kind_of s) plain) in cc

not_open : (c s : Symbol) → IsCloser c → class_of (kind_of s) ≡ Opens → c ≡ s → ⊥
not_open c s h opens e = let differ : Closes h.0 ≡ Opens = closer_is c s h.0 Opens h.1 e opens in cc

plain_not_open : (t s : Symbol) → is_plain t ≡ true → class_of (kind_of s) ≡ Opens → t ≡ s → ⊥
plain_not_open t s plain opens e =
    let differ : Plain ≡ Opens = sym (plain_class (kind_of t) plain) ∙ ap (λ u. class_of (kind_of u)) e ∙ opens in cc

-- two lists that begin alike
heads : (x y : Symbol) (xs ys : List Symbol) → x ∷ xs ≡ y ∷ ys → (x ≡ y) × (xs ≡ ys)
heads x y xs ys e = let first : x ≡ y = cc in let others : xs ≡ ys = cc in (first, others)

inner : (inside more last : List Symbol) (c : Symbol) → (inside ++ (c ∷ more)) ++ last ≡ inside ++ (c ∷ (more ++ last))
inner inside more last c = append_assoc inside (c ∷ more) last

-- a pair and what is behind it
pairs :
    (x y z : Symbol) (inside others more left : List Symbol) → IsCloser z → IsBalanced inside → IsBalanced others → IsBalanced more → IsBalanced left
    → (c d : Symbol) (r t : List Symbol) → IsCloser c → IsCloser d → (x ∷ (inside ++ (z ∷ more))) ++ (c ∷ r) ≡ (y ∷ (others ++ (z ∷ left))) ++ (d ∷ t)
    → ((e : inside ++ (z ∷ (more ++ (c ∷ r))) ≡ others ++ (z ∷ (left ++ (d ∷ t)))) → inside ≡ others)
    → (more ++ (c ∷ r) ≡ left ++ (d ∷ t) → more ≡ left)
    → x ∷ (inside ++ (z ∷ more)) ≡ y ∷ (others ++ (z ∷ left))
pairs x y z inside others more left closes hi ho hm hl c d r t h k e first second =
    let parts = heads x y ((inside ++ (z ∷ more)) ++ (c ∷ r)) ((others ++ (z ∷ left)) ++ (d ∷ t)) e in
    let joined : inside ++ (z ∷ (more ++ (c ∷ r))) ≡ others ++ (z ∷ (left ++ (d ∷ t))) = sym (inner inside more (c ∷ r) z) ∙ parts.1 ∙ inner others left (d ∷ t) z in
    let same = first joined in
    let behind : z ∷ (more ++ (c ∷ r)) ≡ z ∷ (left ++ (d ∷ t)) =
    append_cancel_left others (z ∷ (more ++ (c ∷ r))) (z ∷ (left ++ (d ∷ t))) (ap (λ l. l ++ (z ∷ (more ++ (c ∷ r)))) (sym same) ∙ joined) in
    let rest = second (heads z z (more ++ (c ∷ r)) (left ++ (d ∷ t)) behind).1 in
    ap (λ s. s ∷ (inside ++ (z ∷ more))) parts.0 ∙ ap (λ l. y ∷ (l ++ (z ∷ more))) same ∙ ap (λ l. y ∷ (others ++ (z ∷ l))) rest

-- behind what is balanced comes what closes a bracket around it
pub ends_once :
    (a b : List Symbol) → IsBalanced a → IsBalanced b → (c d : Symbol) (r t : List Symbol) → IsCloser c → IsCloser d → a ++ (c ∷ r) ≡ b ++ (d ∷ t) → a ≡ b
ends_once a b nothing nothing c d r t h k e = refl
ends_once a b nothing (token s more plain m) c d r t h k e = absurd (not_plain c s h plain (heads c s r (more ++ (d ∷ t)) e).0)
ends_once a b nothing (parens inside more i m) c d r t h k e = absurd (not_open c open_paren h refl (heads c open_paren r ((inside ++ (close_paren ∷ more)) ++ (d ∷ t)) e).0)
ends_once a b nothing (brackets at inside more i m) c d r t h k e = absurd (not_open c (Bracket at) h refl (heads c (Bracket at) r ((inside ++ (close_bracket ∷ more)) ++ (d ∷ t)) e).0)
ends_once a b nothing (braces at inside more i m) c d r t h k e = absurd (not_open c (Brace at) h refl (heads c (Brace at) r ((inside ++ (close_brace ∷ more)) ++ (d ∷ t)) e).0)
ends_once a b (token s more plain m) nothing c d r t h k e = absurd (not_plain d s k plain (sym (heads s d (more ++ (c ∷ r)) t e).0))
ends_once a b (token s more plain m) (token u left other l) c d r t h k e =
    let parts = heads s u (more ++ (c ∷ r)) (left ++ (d ∷ t)) e in
    ap (λ x. x ∷ more) parts.0 ∙ ap (λ l. u ∷ l) (ends_once more left m l c d r t h k parts.1)
ends_once a b (token s more plain m) (parens inside left i l) c d r t h k e =
    absurd (plain_not_open s open_paren plain refl (heads s open_paren (more ++ (c ∷ r)) ((inside ++ (close_paren ∷ left)) ++ (d ∷ t)) e).0)
ends_once a b (token s more plain m) (brackets at inside left i l) c d r t h k e =
    absurd (plain_not_open s (Bracket at) plain refl (heads s (Bracket at) (more ++ (c ∷ r)) ((inside ++ (close_bracket ∷ left)) ++ (d ∷ t)) e).0)
ends_once a b (token s more plain m) (braces at inside left i l) c d r t h k e =
    absurd (plain_not_open s (Brace at) plain refl (heads s (Brace at) (more ++ (c ∷ r)) ((inside ++ (close_brace ∷ left)) ++ (d ∷ t)) e).0)
ends_once a b (parens inside more i m) nothing c d r t h k e =
    absurd (not_open d open_paren k refl (sym (heads open_paren d ((inside ++ (close_paren ∷ more)) ++ (c ∷ r)) t e).0))
ends_once a b (parens inside more i m) (token s left plain l) c d r t h k e =
    absurd (plain_not_open s open_paren plain refl (sym (heads open_paren s ((inside ++ (close_paren ∷ more)) ++ (c ∷ r)) (left ++ (d ∷ t)) e).0))
ends_once a b (parens inside more i m) (parens others left o l) c d r t h k e =
    pairs open_paren open_paren close_paren inside others more left (kind_of open_paren, refl) i o m l c d r t h k e
    (λ e. ends_once inside others i o close_paren close_paren (more ++ (c ∷ r)) (left ++ (d ∷ t)) (kind_of open_paren, refl) (kind_of open_paren, refl) e)
    (λ e. ends_once more left m l c d r t h k e)
ends_once a b (parens inside more i m) (brackets at others left o l) c d r t h k e = cc
ends_once a b (parens inside more i m) (braces at others left o l) c d r t h k e = cc
ends_once a b (brackets at inside more i m) nothing c d r t h k e =
    absurd (not_open d (Bracket at) k refl (sym (heads (Bracket at) d ((inside ++ (close_bracket ∷ more)) ++ (c ∷ r)) t e).0))
ends_once a b (brackets at inside more i m) (token s left plain l) c d r t h k e =
    absurd (plain_not_open s (Bracket at) plain refl (sym (heads (Bracket at) s ((inside ++ (close_bracket ∷ more)) ++ (c ∷ r)) (left ++ (d ∷ t)) e).0))
ends_once a b (brackets at inside more i m) (brackets j others left o l) c d r t h k e =
    pairs (Bracket at) (Bracket j) close_bracket inside others more left (kind_of (Bracket 0), refl) i o m l c d r t h k e
    (λ e. ends_once inside others i o close_bracket close_bracket (more ++ (c ∷ r)) (left ++ (d ∷ t)) (kind_of (Bracket 0), refl) (kind_of (Bracket 0), refl) e)
    (λ e. ends_once more left m l c d r t h k e)
ends_once a b (brackets at inside more i m) (parens others left o l) c d r t h k e = cc
ends_once a b (brackets at inside more i m) (braces j others left o l) c d r t h k e = cc
ends_once a b (braces at inside more i m) nothing c d r t h k e =
    absurd (not_open d (Brace at) k refl (sym (heads (Brace at) d ((inside ++ (close_brace ∷ more)) ++ (c ∷ r)) t e).0))
ends_once a b (braces at inside more i m) (token s left plain l) c d r t h k e =
    absurd (plain_not_open s (Brace at) plain refl (sym (heads (Brace at) s ((inside ++ (close_brace ∷ more)) ++ (c ∷ r)) (left ++ (d ∷ t)) e).0))
ends_once a b (braces at inside more i m) (braces j others left o l) c d r t h k e =
    pairs (Brace at) (Brace j) close_brace inside others more left (kind_of (Brace 0), refl) i o m l c d r t h k e
    (λ e. ends_once inside others i o close_brace close_brace (more ++ (c ∷ r)) (left ++ (d ∷ t)) (kind_of (Brace 0), refl) (kind_of (Brace 0), refl) e)
    (λ e. ends_once more left m l c d r t h k e)
ends_once a b (braces at inside more i m) (parens others left o l) c d r t h k e = cc
ends_once a b (braces at inside more i m) (brackets j others left o l) c d r t h k e = cc
