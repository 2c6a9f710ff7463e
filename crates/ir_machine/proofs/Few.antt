-- Registers of which the first few are a list.
use Rattle.std.proofs.Common.{◌≡◌, ◌∙◌, ℕ, zero, suc, ◌+◌, ◌<◌, Bool, true, false, cond, List, [], ◌∷◌, ◌++◌, length, drop, get_or, slice_set, Option, None, Some, Result, Ok, Err, refl, sym, ap, subst, arith, append_assoc}
use Rattle.std.specs.Prelude.{OnOk, OnErr}
use Rattle.std.specs.Map.{lookup}
use Rattle.std.specs.Option.{option_map}
use Rattle.ir_types.specs.declared.names.Name.{Name}
use Rattle.ir_types.specs.NameLaws.{name_equivalence, same_name_true}
use Rattle.ir_types.specs.Same.{same_name}
use Rattle.ir_core.specs.declared.values.Kind.{Kind}
use Rattle.ir_core.specs.declared.values.Value.{Value}
use Rattle.ir_machine.specs.Kept.{kept_registers, entry_held, place_in}
use Rattle.ir_machine.proofs.Entries.{Entries, Puts, AreCopied}
use Rattle.ir_machine.proofs.Standing.{drop_at}

abbrev Entry : Type 0
Entry = Name × Option (Kind × Value)

pub either_end : {A E P Q R : Type 0} (r : Result A E) → OnOk r P → OnErr r Q → (P → R) → (Q → R) → R
either_end (Ok a) p q f g = f p
either_end (Err e) p q f g = g q

-- ---- the place of a name

abbrev pub past : ℕ → Option ℕ → Option ℕ
past i o = option_map (λ k. i + k) o

past_more : (i : ℕ) (o : Option ℕ) → past i (option_map suc o) ≡ past (i + 1) o
past_more i None = refl
past_more i (Some k) = ap Some (omega arith)

pub past_none : (o : Option ℕ) → past 0 o ≡ o
past_none None = refl
past_none (Some k) = ap Some (omega arith)

pub place_here : (x : Name) (es : Entries) (i : ℕ) (e : Entry) → i < length es → e ≡ get_or es i e → same_name x e.0 ≡ true
    → past i (place_in x (drop i es)) ≡ Some i
place_here x es i e within is same = ap (λ l. past i (place_in x l)) (drop_at es i e within is) ∙ first
  where
    first : past i (place_in x (e ∷ drop (i + 1) es)) ≡ Some i
    first = ap (λ b. past i (cond b (Some 0) (option_map suc (place_in x (drop (i + 1) es))))) same ∙ ap Some (omega arith)

pub place_later : (x : Name) (es : Entries) (i : ℕ) (e : Entry) → i < length es → e ≡ get_or es i e → same_name x e.0 ≡ false
    → past i (place_in x (drop i es)) ≡ past (i + 1) (place_in x (drop (i + 1) es))
place_later x es i e within is other = ap (λ l. past i (place_in x l)) (drop_at es i e within is) ∙ rest ∙ past_more i (place_in x (drop (i + 1) es))
  where
    rest : past i (place_in x (e ∷ drop (i + 1) es)) ≡ past i (option_map suc (place_in x (drop (i + 1) es)))
    rest = ap (λ b. past i (cond b (Some 0) (option_map suc (place_in x (drop (i + 1) es))))) other

-- ---- what holds of a first entry, and then of the others

first_or_later : (x : Name) (e : Entry) (es : Entries) (P : Option ℕ → Type 0) → (same_name x e.0 ≡ true → P (Some 0)) → (same_name x e.0 ≡ false → P (option_map suc (place_in x es))) → P (place_in x (e ∷ es))
first_or_later x e es P first later = by_side (same_name x e.0) refl
  where
    by_side : (b : Bool) → same_name x e.0 ≡ b → P (cond b (Some 0) (option_map suc (place_in x es)))
    by_side true is = first is
    by_side false is = later is

not_later : (o : Option ℕ) → option_map suc o ≡ None → o ≡ None
not_later None is = refl
not_later (Some k) is = absurd (cc)

-- what is put behind an entry of another name
puts_past : (x : Name) (h : Option (Kind × Value)) (e : Entry) (old new : Entries) → same_name x e.0 ≡ false → Puts old new x h → Puts (e ∷ old) (e ∷ new) x h
puts_past x h e old new other puts q = ap (λ o. cond (same_name q e.0) (Some e.1) o) (puts q) ∙ swapped (same_name x q) refl
  where
    rest : Option (Option (Kind × Value))
    rest = lookup (same_name q) old

    swapped : (b : Bool) → same_name x q ≡ b → cond (same_name q e.0) (Some e.1) (cond b (Some h) rest) ≡ cond b (Some h) (cond (same_name q e.0) (Some e.1) rest)
    swapped true is = ap (λ c. cond c (Some e.1) (Some h)) (subst (λ (n : Name). same_name n e.0 ≡ false) (same_name_true x q is) other)
    swapped false is = refl

-- a name that isn't among the first is put behind them
pub puts_behind : (x : Name) (h : Option (Kind × Value)) (few old new : Entries) → place_in x few ≡ None → Puts old new x h → Puts (few ++ old) (few ++ new) x h
puts_behind x h [] old new none puts = puts
puts_behind x h (e ∷ es) old new none puts =
    first_or_later x e es (λ o. o ≡ None → Puts (e ∷ (es ++ old)) (e ∷ (es ++ new)) x h)
    (λ same is. absurd (cc))
    (λ other is. puts_past x h e (es ++ old) (es ++ new) other (puts_behind x h es old new (not_later (place_in x es) is) puts)) none

puts_first : (x : Name) (h : Option (Kind × Value)) (old : Entries) → Puts old ((x, h) ∷ old) x h
puts_first x h old q = ap (λ b. cond b (Some h) (lookup (same_name q) old)) (name_equivalence.symm q x)

-- one more of the few
pub puts_last : (x : Name) (h : Option (Kind × Value)) (few held : Entries) → place_in x few ≡ None → Puts (few ++ held) ((few ++ (x, h) ∷ []) ++ held) x h
puts_last x h few held none =
    subst (λ (l : Entries). Puts (few ++ held) l x h) (sym (append_assoc few ((x, h) ∷ []) held)) (puts_behind x h few held ((x, h) ∷ held) none (puts_first x h held))

puts_over : (x : Name) (h : Option (Kind × Value)) (e : Entry) (old : Entries) → same_name x e.0 ≡ true → Puts (e ∷ old) ((e.0, h) ∷ old) x h
puts_over x h e old same q =
    let symmetric = name_equivalence.symm q e.0 in
    let is : same_name q e.0 ≡ same_name x q = symmetric ∙ ap (λ n. same_name n q) (sym (same_name_true x e.0 same)) in
    over (same_name q e.0) (same_name x q) is
  where
    over : (a b : Bool) → a ≡ b → cond a (Some h) (lookup (same_name q) old) ≡ cond b (Some h) (cond a (Some e.1) (lookup (same_name q) old))
    over true true is = refl
    over false false is = refl
    over true false is = absurd (cc)
    over false true is = absurd (cc)

earlier : (o : Option ℕ) (i : ℕ) → option_map suc o ≡ Some i → (j : ℕ) × (o ≡ Some j) × (suc j ≡ i)
earlier None i is = absurd (cc)
earlier (Some j) i is = let same : suc j ≡ i = cc in (j, refl, same)

-- what holds at the place of a name
module _ (x : Name) (P : Entries → ℕ → Type 0) (first : (e : Entry) (es : Entries) → same_name x e.0 ≡ true → P (e ∷ es) 0)
    (later : (e : Entry) (es : Entries) (i : ℕ) → same_name x e.0 ≡ false → P es i → P (e ∷ es) (suc i)) where
  at_place : (few : Entries) (i : ℕ) → place_in x few ≡ Some i → P few i
  at_place [] i is = absurd (cc)
  at_place (e ∷ es) i is =
      first_or_later x e es (λ o. o ≡ Some i → P (e ∷ es) i) (λ same there. let start : 0 ≡ i = cc in subst (P (e ∷ es)) start (first e es same))
      (λ other there.
      let before = earlier (place_in x es) i there in
      subst (P (e ∷ es)) before.2 (later e es before.0 other (at_place es before.0 before.1))) is

-- another value at the place of the name
pub puts_at : (x : Name) (h : Option (Kind × Value)) (few held : Entries) (i : ℕ) (y : Entry) → place_in x few ≡ Some i → y ≡ get_or few i y
    → Puts (few ++ held) (slice_set few i (y.0, h) ++ held) x h
puts_at x h few held i y =
    at_place x (λ es i. y ≡ get_or es i y → Puts (es ++ held) (slice_set es i (y.0, h) ++ held) x h)
    (λ e es same at. subst (λ (m : Name). Puts (e ∷ (es ++ held)) ((m, h) ∷ (es ++ held)) x h) (ap (λ p. p.0) (sym at)) (puts_over x h e (es ++ held) same))
    (λ e es i other puts at. puts_past x h e (es ++ held) (slice_set es i (y.0, h) ++ held) other (puts at)) few i

-- ---- reading

pub place_within : (x : Name) (few : Entries) (i : ℕ) → place_in x few ≡ Some i → i < length few
place_within x = at_place x (λ es i. i < length es) (λ e es same. omega arith) (λ e es i other within. omega (arith, within))

pub read_at : (x : Name) (few held : Entries) (i : ℕ) (y : Entry) → place_in x few ≡ Some i → y ≡ get_or few i y
    → lookup (same_name x) (few ++ held) ≡ Some y.1
read_at x few held i y =
    at_place x (λ es i. y ≡ get_or es i y → lookup (same_name x) (es ++ held) ≡ Some y.1)
    (λ e es same at. ap (λ b. cond b (Some e.1) (lookup (same_name x) (es ++ held))) same ∙ ap (λ (p : Entry). Some p.1) (sym at))
    (λ e es i other found at. ap (λ b. cond b (Some e.1) (lookup (same_name x) (es ++ held))) other ∙ found at) few i

pub read_behind : (x : Name) (few held : Entries) → place_in x few ≡ None → lookup (same_name x) (few ++ held) ≡ lookup (same_name x) held
read_behind x [] held none = refl
read_behind x (e ∷ es) held none =
    first_or_later x e es (λ o. o ≡ None → lookup (same_name x) (e ∷ (es ++ held)) ≡ lookup (same_name x) held) (λ same is. absurd (cc))
    (λ other is. ap (λ b. cond b (Some e.1) (lookup (same_name x) (es ++ held))) other ∙ read_behind x es held (not_later (place_in x es) is)) none

-- ---- copies

behind_same : (few a b : Entries) (q : Name) → lookup (same_name q) a ≡ lookup (same_name q) b → lookup (same_name q) (few ++ a) ≡ lookup (same_name q) (few ++ b)
behind_same [] a b q same = same
behind_same (e ∷ es) a b q same = ap (λ o. cond (same_name q e.0) (Some e.1) o) (behind_same es a b q same)

pub file_copied : (few list copy es : Entries) (i : ℕ) → few ≡ list → i ≡ 0 → AreCopied copy es i → kept_registers (few ++ copy) ≡ kept_registers (list ++ es)
file_copied few list copy es i same none copied =
    (λ j q. entry_held (behind_same few copy es q (copied q ∙ ap (λ k. lookup (same_name q) (drop k es)) none) j)) ∙ ap (λ l. kept_registers (l ++ es)) same
