-- Guarded tokens stand for themselves.
use Rattle.std.proofs.Common.{◌≡◌, ◌∙◌, ℕ, Bool, true, false, nat_eq, List, [], ◌∷◌, ◌++◌, map, reverse, ◌⊎◌, inl, inr, ⊎_elim, refl, ap, sym, subst, append_assoc, arith}
use Rattle.std.proofs.lemmas.List.{reverse-append, reverse-reverse}
use Rattle.std.specs.List.{AllByRecursion}
use Rattle.predictive.specs.Fills.{Fills, FillsFrom}
use Rattle.ir_lexer.specs.declared.token.Number.{Number}
use Rattle.ir_types.specs.declared.names.Name.{Name}
use Rattle.module_grammar.proofs.TypeFolds.{at_array, at_int, at_named, at_ptr, at_struct, by_parts}
use Rattle.module_grammar.specs.Balanced.{IsBalanced, is_plain, nothing, token, parens, brackets, braces}
use Rattle.module_grammar.specs.Sorts.{Called}
use Rattle.module_grammar.specs.Symbols.{Symbol, Brace, Bracket, Global, Star, close_brace, close_bracket, close_paren, kind_of, open_paren, unnamed_addr, void}
use Rattle.module_grammar.specs.Texts.{IsWritten, is_balanced}
use Rattle.module_grammar.specs.Types.{called, open_end, ty, types}
use Rattle.module_grammar.specs.declared.places.Placed.{Placed}
use Rattle.module_grammar.specs.declared.types.CalledText.{CalledText}
use Rattle.module_grammar.specs.declared.types.TypeText.{TypeText, Array, Int, Named, Ptr, Struct}
use Rattle.module_spelling.specs.Context.{AreBehind, IsUnstated, IsWhole, StandFor, StandsFor, called_number}
use Rattle.module_texts.proofs.Lists.{all_joined, all_parted}
use Rattle.module_texts.proofs.Plain.{InTypes, listed_all, of_called}
use Rattle.printed_modules.proofs.Guarded.{HasNoAddr, IsGuarded}

-- ---- types have no parentheses

abbrev NoParen : Symbol → Type 0
NoParen s = (nat_eq (kind_of s) (kind_of open_paren) ≡ false) × (nat_eq (kind_of s) (kind_of close_paren) ≡ false)

abbrev HasNoParen : List Symbol → Type 0
HasNoParen = AllByRecursion NoParen

is_no_close : NoParen close_paren → ⊥
is_no_close is = let clash : true ≡ false = is.1 in cc

is_no_open : NoParen open_paren → ⊥
is_no_open is = let clash : true ≡ false = is.0 in cc

abbrev IsOfTypes : TypeText → Type 0
IsOfTypes t = HasNoParen (ty t)

written_so : (ts : List TypeText) → AllByRecursion IsOfTypes ts → AllByRecursion HasNoParen (map ty ts)
written_so [] all = tt
written_so (t ∷ ts) all = (all.0, written_so ts all.1)

int_type : (width : Placed ℕ) → IsOfTypes (Int width)
int_type width = subst HasNoParen (sym (at_int width)) ((refl, refl), tt)

named_type : (name : Placed Name) → IsOfTypes (Named name)
named_type name = subst HasNoParen (sym (at_named name)) ((refl, refl), tt)

pointer_type : (at : ℕ) (t : TypeText) → IsOfTypes t → IsOfTypes (Ptr at t)
pointer_type at t is = subst HasNoParen (sym (at_ptr at t)) (all_joined NoParen (ty t) (Star at ∷ []) is ((refl, refl), tt))

array_type : (at : ℕ) (count : Placed Number) (t : TypeText) → IsOfTypes t → IsOfTypes (Array at (count, t))
array_type at count t is =
    subst HasNoParen (sym (at_array at count t))
    ((refl, refl), ((refl, refl), ((refl, refl), all_joined NoParen (ty t) (close_bracket ∷ []) is ((refl, refl), tt))))

struct_type : (at : ℕ) (ts : List TypeText) → AllByRecursion IsOfTypes ts → IsOfTypes (Struct at ts)
struct_type at ts all =
    subst HasNoParen (sym (at_struct at ts))
    ((refl, refl), all_joined NoParen (types ts) (close_brace ∷ []) (listed_all NoParen (refl, refl) (map ty ts) (written_so ts all)) ((refl, refl), tt))

of_type : (t : TypeText) → IsOfTypes t
of_type = by_parts IsOfTypes int_type named_type pointer_type array_type struct_type

of_each : (ts : List TypeText) → AllByRecursion HasNoParen (map ty ts)
of_each [] = tt
of_each (t ∷ ts) = (of_type t, of_each ts)

of_end : (is_open : Bool) → AllByRecursion HasNoParen (open_end is_open)
of_end true = (((refl, refl), tt), tt)
of_end false = tt

-- where no text is left out, the tokens are what is written
from_plain : (b : Bool) (w : Symbol) (More : List Symbol → Type 0) (ws ts : List Symbol) → b ≡ false → ((us : List Symbol) → More us → us ≡ ws) → FillsFrom b IsBalanced w More ts → ts ≡ w ∷ ws
from_plain true w More ws ts e rest fills = cc
from_plain false w More ws ts e rest fills = sym fills.1 ∙ ap (λ l. w ∷ l) (rest fills.0 fills.2)

plainly : (ws ts : List Symbol) → AllByRecursion InTypes ws → Fills is_balanced IsBalanced ws ts → ts ≡ ws
plainly [] ts all fills = fills
plainly (w ∷ ws) ts all fills =
    from_plain (is_balanced w) w (Fills is_balanced IsBalanced ws) ws ts all.0.0.0 (λ us more. plainly ws us all.1 more) fills

called_tokens : (c : CalledText) (tokens : List Symbol) → IsWritten Called c tokens → HasNoParen tokens
called_tokens c tokens is =
    subst HasNoParen (sym (plainly (called c) tokens (of_called c) is))
    (listed_all NoParen (refl, refl) (map ty c.types ++ open_end c.is_open) (all_joined HasNoParen (map ty c.types) (open_end c.is_open) (of_each c.types) (of_end c.is_open)))

-- ---- what a parenthesis closes

-- of two rows that go on alike the one goes on past the end of the other
abbrev GoesPast : List Symbol → List Symbol → Symbol → Type 0
GoesPast xs ys b = (z : List Symbol) × (xs ≡ ys ++ (b ∷ z))

abbrev IsParted : List Symbol → List Symbol → Symbol → Symbol → List Symbol → List Symbol → Type 0
IsParted xs ys a b more rest =
    GoesPast xs ys b ⊎ ((z : List Symbol) × (ys ≡ xs ++ (a ∷ z)) × (more ≡ z ++ (b ∷ rest)))

parted : (xs ys : List Symbol) (a b : Symbol) (more rest : List Symbol) → (a ≡ b → ⊥) → xs ++ (a ∷ more) ≡ ys ++ (b ∷ rest) → IsParted xs ys a b more rest
parted [] [] a b more rest apart e = let head : a ≡ b = cc in absurd (apart head)
parted [] (y ∷ ys) a b more rest apart e =
    let head : a ≡ y = cc in
    let tail : more ≡ ys ++ (b ∷ rest) = cc in
    inr (ys, ap (λ h. h ∷ ys) (sym head), tail)
parted (x ∷ xs) [] a b more rest apart e = let head : x ≡ b = cc in inl (xs, ap (λ h. h ∷ xs) head)
parted (x ∷ xs) (y ∷ ys) a b more rest apart e =
    let head : x ≡ y = cc in
    let tail : xs ++ (a ∷ more) ≡ ys ++ (b ∷ rest) = cc in
    ⊎_elim
    (λ h. inl (h.0, ap (λ k. k ∷ xs) head ∙ ap (λ l. y ∷ l) h.1))
    (λ h. inr (h.0, ap (λ k. k ∷ ys) (sym head) ∙ ap (λ l. x ∷ l) h.1, h.2))
    (parted xs ys a b more rest apart tail)

bracket_apart : close_bracket ≡ close_paren → ⊥
bracket_apart e = let same : kind_of close_bracket ≡ kind_of close_paren = ap kind_of e in omega (arith, same)

brace_apart : close_brace ≡ close_paren → ⊥
brace_apart e = let same : kind_of close_brace ≡ kind_of close_paren = ap kind_of e in omega (arith, same)

paren_apart : open_paren ≡ close_paren → ⊥
paren_apart e = let same : kind_of open_paren ≡ kind_of close_paren = ap kind_of e in omega (arith, same)

-- in balanced tokens no parenthesis closes that didn't open
abbrev Closes : List Symbol → Type 0
Closes ts = (ys z : List Symbol) → HasNoParen ys → ts ≡ ys ++ (close_paren ∷ z) → ⊥

between : (inside more : List Symbol) (end : Symbol) → (end ≡ close_paren → ⊥) → Closes inside → Closes more → Closes (inside ++ (end ∷ more))
between inside more end apart one other ys z none e =
    ⊎_elim
    (λ h. one ys h.0 none h.1)
    (λ h. other h.0 z (all_parted NoParen inside (end ∷ h.0) (subst HasNoParen h.1 none)).1.1 h.2)
    (parted inside ys end close_paren more z apart e)

opened : (s : Symbol) (more : List Symbol) → (s ≡ close_paren → ⊥) → Closes more → Closes (s ∷ more)
opened s more apart behind [] z none e = let head : s ≡ close_paren = cc in apart head
opened s more apart behind (y ∷ ys) z none e = let tail : more ≡ ys ++ (close_paren ∷ z) = cc in behind ys z none.1 tail

plain_apart : (s : Symbol) → is_plain s ≡ true → s ≡ close_paren → ⊥
plain_apart s plain e = let clash : false ≡ true = sym (ap is_plain e) ∙ plain in cc

not_closed : (ts : List Symbol) → IsBalanced ts → Closes ts
not_closed ts nothing [] z none e = cc
not_closed ts nothing (y ∷ ys) z none e = cc
not_closed ts (token s more plain b) ys z none e = opened s more (plain_apart s plain) (not_closed more b) ys z none e
not_closed ts (parens inside more b c) [] z none e = let head : open_paren ≡ close_paren = cc in paren_apart head
not_closed ts (parens inside more b c) (y ∷ ys) z none e = let head : y ≡ open_paren = cc in is_no_open (subst NoParen head none.0)
not_closed ts (brackets at inside more b c) ys z none e =
    opened (Bracket at) (inside ++ (close_bracket ∷ more)) (λ e. cc)
    (between inside more close_bracket bracket_apart (not_closed inside b) (not_closed more c)) ys z none e
not_closed ts (braces at inside more b c) ys z none e =
    opened (Brace at) (inside ++ (close_brace ∷ more)) (λ e. cc)
    (between inside more close_brace brace_apart (not_closed inside b) (not_closed more c)) ys z none e

-- of rows up to a parenthesis that closes, of which the second has no other, the first is the second, or goes past it
up_to : (xs ys more rest : List Symbol) → HasNoParen ys → xs ++ (close_paren ∷ more) ≡ ys ++ (close_paren ∷ rest) → (xs ≡ ys) ⊎ GoesPast xs ys close_paren
up_to [] [] more rest none e = inl refl
up_to [] (y ∷ ys) more rest none e = let head : y ≡ close_paren = cc in absurd (is_no_close (subst NoParen head none.0))
up_to (x ∷ xs) [] more rest none e = let head : x ≡ close_paren = cc in inr (xs, ap (λ h. h ∷ xs) head)
up_to (x ∷ xs) (y ∷ ys) more rest none e =
    let head : x ≡ y = cc in
    let tail : xs ++ (close_paren ∷ more) ≡ ys ++ (close_paren ∷ rest) = cc in
    ⊎_elim
    (λ h. inl (ap (λ k. k ∷ xs) head ∙ ap (λ l. y ∷ l) h))
    (λ h. inr (h.0, ap (λ k. k ∷ xs) head ∙ ap (λ l. y ∷ l) h.1))
    (up_to xs ys more rest none.1 tail)

-- what is balanced up to the parenthesis that closes is what has no parentheses up to it
same_inside : (inside types more rest : List Symbol) → IsBalanced inside → HasNoParen types → inside ++ (close_paren ∷ more) ≡ types ++ (close_paren ∷ rest) → inside ≡ types
same_inside inside types more rest balanced none e =
    ⊎_elim (λ same. same) (λ h. absurd (not_closed inside balanced types h.0 none h.1)) (up_to inside types more rest none e)

-- ---- the rows

guarded_behind : (xs ys : List Symbol) → IsGuarded (xs ++ ys) → IsGuarded ys
guarded_behind [] ys guarded = guarded
guarded_behind (x ∷ xs) ys guarded = guarded_behind xs ys guarded.1

turned : (inside rest ss : List Symbol) → reverse (close_paren ∷ (reverse inside ++ (open_paren ∷ void ∷ rest))) ++ ss ≡ reverse rest ++ (void ∷ open_paren ∷ (inside ++ (close_paren ∷ ss)))
turned inside rest ss =
    let front = reverse rest ++ (void ∷ open_paren ∷ []) in
    let back : reverse (reverse inside ++ (open_paren ∷ void ∷ rest)) ≡ front ++ inside =
    reverse-append (reverse inside) (open_paren ∷ void ∷ rest)
    ∙ ap (λ l. l ++ reverse (reverse inside)) (reverse-append (open_paren ∷ void ∷ []) rest)
    ∙ ap (λ l. front ++ l) (reverse-reverse inside) in
    ap (λ l. l ++ ss) (reverse-append (close_paren ∷ []) (reverse inside ++ (open_paren ∷ void ∷ rest)) ∙ ap (λ l. l ++ (close_paren ∷ [])) back)
    ∙ append_assoc (front ++ inside) (close_paren ∷ []) ss
    ∙ append_assoc front inside (close_paren ∷ ss)
    ∙ append_assoc (reverse rest) (void ∷ open_paren ∷ []) (inside ++ (close_paren ∷ ss))

-- types stand before each name behind a `void` with parentheses
not_unstated : (before ss : List Symbol) → IsGuarded (reverse before ++ ss) → IsUnstated before → ⊥
not_unstated before ss guarded (inside, stands, not_whole) =
    let whole : reverse before ++ ss ≡ reverse stands.rest ++ (void ∷ open_paren ∷ (inside ++ (close_paren ∷ ss))) =
    ap (λ l. reverse l ++ ss) stands.same ∙ turned inside stands.rest ss in
    let guards = (guarded_behind (reverse stands.rest) (void ∷ open_paren ∷ (inside ++ (close_paren ∷ ss))) (subst IsGuarded whole guarded)).0 refl in
    let stated = guards (inside ++ (close_paren ∷ ss)) refl in
    let is : IsWhole Called called_number stated.0 = stated.4 in
    let same : inside ≡ stated.0 =
    same_inside inside stated.0 ss (Global stated.1 ∷ stated.2) stands.balanced (called_tokens is.tree stated.0 is.written) stated.3 in
    not_whole (subst (IsWhole Called called_number) (sym same) is)

stands_for : (s : Symbol) (before ss : List Symbol) → IsGuarded (reverse before ++ (s ∷ ss)) → (kind_of s ≡ kind_of unnamed_addr → ⊥) → StandsFor before s s
stands_for (Global x) before ss guarded other = inl (not_unstated before (Global x ∷ ss) guarded, refl)
stands_for s before ss guarded other = inr (other, refl)

stand_behind : (before ss : List Symbol) → IsGuarded (reverse before ++ ss) → HasNoAddr ss → AreBehind before ss ss
stand_behind before [] guarded others = tt
stand_behind before (s ∷ ss) guarded others =
    let turn : reverse (s ∷ before) ++ ss ≡ reverse before ++ (s ∷ ss) =
    ap (λ l. l ++ ss) (reverse-append (s ∷ []) before) ∙ append_assoc (reverse before) (s ∷ []) ss in
    (stands_for s before ss guarded others.0, stand_behind (s ∷ before) ss (subst IsGuarded (sym turn) guarded) others.1)

pub stands : (ss : List Symbol) → IsGuarded ss → HasNoAddr ss → StandFor ss ss
stands ss guarded others = stand_behind [] ss guarded others
