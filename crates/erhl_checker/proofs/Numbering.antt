-- Lists of registers, each once, and their numbers.
use Rattle.std.proofs.Common.{◌≡◌, ◌∙◌, ◌<◌, ◌+◌, ◌==◌, Bool, true, ℕ, List, [], ◌∷◌, ◌++◌, length, length-append, map, take, drop, get_or, Option, None, Some, refl, sym, ap, subst, arith}
use Rattle.std.proofs.lemmas.List.{at_drop_more, get_or_append_left, get_or_push, map-append, take_more}
use Rattle.std.proofs.lemmas.Option.{get_or_from_slice_get, slice_get_within}
use Rattle.std.proofs.lemmas.Map.Views.{exact_unsigned_eq}
use Rattle.std.specs.Prelude.{slice_get}
use Rattle.ir_types.specs.declared.names.Name.{Name}
use Rattle.ir_core.specs.declared.expressions.Reg.{Reg}
use Rattle.erhl_assert.specs.declared.hints.HintBlock.{HintBlock}
use Rattle.erhl_assert.specs.Held.{bare}
use Rattle.erhl_checker.specs.HintLists.{diff_of, listed_at, AreNumbered, IsNumbered, Keeps}

pub same_keeps : (few many : List (List Reg)) → many ≡ few → Keeps few many
unfolding Keeps
same_keeps few many e n h = let long : length many ≡ length few = ap length e in (omega (arith, long, h), ap (λ (xs : List (List Reg)). get_or xs n []) e)

pub numbered_here : (lists : List (List Reg)) (n : ℕ) (rs found : List Reg) → slice_get lists n ≡ Some found → found ≡ rs → IsNumbered lists (Some n) rs
numbered_here lists n rs found here e = (slice_get_within lists n found here, get_or_from_slice_get lists n found [] here ∙ e)

pub last_numbered : (few many : List (List Reg)) (rs : List Reg) (n : ℕ) → n ≡ length few → many ≡ few ++ rs ∷ [] → IsNumbered many (Some n) rs
last_numbered few many rs n at e =
    let long : length many ≡ length few + 1 = ap length e ∙ length-append few (rs ∷ []) in
    (omega (arith, long, at), ap (λ (xs : List (List Reg)). get_or xs n []) e ∙ get_or_push few rs [] n (sym at))

pub one_more_keeps : (few many : List (List Reg)) (rs : List Reg) → many ≡ few ++ rs ∷ [] → Keeps few many
unfolding Keeps
one_more_keeps few many rs e n h =
    let long : length many ≡ length few + 1 = ap length e ∙ length-append few (rs ∷ []) in
    (omega (arith, long, h), ap (λ (xs : List (List Reg)). get_or xs n []) e ∙ get_or_append_left few (rs ∷ []) [] n h)

pub none_numbered : (lists : List (List Reg)) (hint : HintBlock) → hint ≡ bare hint.at → IsNumbered lists None (diff_of hint)
none_numbered lists hint e = ap diff_of e

pub empty_numbered : (lists : List (List Reg)) (hint block : HintBlock) → (length hint.entry.diff == 0) ≡ true → hint ≡ block → IsNumbered lists None (diff_of block)
empty_numbered lists hint block none e = sym (ap diff_of e) ∙ is_none hint.entry.diff none
  where
    is_none : (rs : List Reg) → (length rs == 0) ≡ true → rs ≡ []
    is_none [] h = refl
    is_none (r ∷ rs) h = let more : length (r ∷ rs) ≡ 0 = exact_unsigned_eq (length (r ∷ rs)) 0 h in absurd (omega arith)

still_numbered : (few many : List (List Reg)) → Keeps few many → (n : Option ℕ) (rs : List Reg) → IsNumbered few n rs → IsNumbered many n rs
unfolding Keeps
still_numbered few many keeps None rs h = h
still_numbered few many keeps (Some n) rs h = let kept = keeps n h.0 in (kept.0, kept.1 ∙ h.1)

all_still : (few many : List (List Reg)) → Keeps few many → (ns : List (Option ℕ)) (all : List (List Reg)) → AreNumbered few ns all → AreNumbered many ns all
unfolding AreNumbered
all_still few many keeps [] [] h = h
all_still few many keeps [] (rs ∷ more) h = absurd h
all_still few many keeps (n ∷ ns) [] h = absurd h
all_still few many keeps (n ∷ ns) (rs ∷ more) h = (still_numbered few many keeps n rs h.0, all_still few many keeps ns more h.1)

one_more : (lists : List (List Reg)) (ns : List (Option ℕ)) (all : List (List Reg)) (n : Option ℕ) (rs : List Reg) → AreNumbered lists ns all → IsNumbered lists n rs → AreNumbered lists (ns ++ n ∷ []) (all ++ rs ∷ [])
unfolding AreNumbered
one_more lists [] [] n rs h is = (is, h)
one_more lists [] (ss ∷ more) n rs h is = absurd h
one_more lists (m ∷ ns) [] n rs h is = absurd h
one_more lists (m ∷ ns) (ss ∷ more) n rs h is = (h.0, one_more lists ns more n rs h.1 is)

-- a block more has its number
pub numbered_on : (few many : List (List Reg)) (ns ms : List (Option ℕ)) (n : Option ℕ) (before after : List HintBlock) (hint : HintBlock)
    → AreNumbered few ns (map diff_of before) → Keeps few many → IsNumbered many n (diff_of hint) → ms ≡ ns ++ n ∷ [] → after ≡ before ++ hint ∷ []
    → AreNumbered many ms (map diff_of after)
unfolding AreNumbered
numbered_on few many ns ms n before after hint h keeps is e f = subst2 (sym e) (sym (ap (map diff_of) f ∙ map-append diff_of before (hint ∷ []))) (one_more many ns (map diff_of before) n (diff_of hint) (all_still few many keeps ns (map diff_of before) h) is)
  where
    subst2 : {ks : List (Option ℕ)} {all : List (List Reg)} → ns ++ n ∷ [] ≡ ks → map diff_of before ++ diff_of hint ∷ [] ≡ all → AreNumbered many (ns ++ n ∷ []) (map diff_of before ++ diff_of hint ∷ []) → AreNumbered many ks all
    subst2 {ks} {all} a b are = subst (λ xs. AreNumbered many xs all) a (subst (λ xs. AreNumbered many (ns ++ n ∷ []) xs) b are)

pub none_yet : (lists : List (List Reg)) → AreNumbered lists [] []
unfolding AreNumbered
none_yet lists = tt

-- a walk along blocks and their numbers
is_at : (lists : List (List Reg)) (n : Option ℕ) (rs : List Reg) → IsNumbered lists n rs → listed_at lists n ≡ rs
is_at lists None rs h = sym h
is_at lists (Some n) rs h = h.1

no_more : (lists : List (List Reg)) (ns : List (Option ℕ)) (rs : List Reg) (more : List (List Reg)) → length ns ≡ 0 → AreNumbered lists ns (rs ∷ more) → ⊥
unfolding AreNumbered
no_more lists [] rs more e h = h
no_more lists (n ∷ ns) rs more e h = absurd (omega (arith, e))

module _ (lists : List (List Reg)) (rest : List (Option ℕ)) (blocks : List HintBlock) (i : ℕ) (block : HintBlock)
    (inside : i < length blocks) (here : block ≡ get_or blocks i block) (are : AreNumbered lists rest (map diff_of (drop i blocks))) where
  are_here : AreNumbered lists rest (map diff_of (block ∷ drop (i + 1) blocks))
  are_here = subst (λ (bs : List HintBlock). AreNumbered lists rest (map diff_of bs)) (at_drop_more (λ (bs : List HintBlock). bs) blocks i block inside ∙ ap (λ (b : HintBlock). b ∷ drop (i + 1) blocks) (sym here)) are

  pub not_ended : length rest ≡ 0 → ⊥
  not_ended none = no_more lists rest (diff_of block) (map diff_of (drop (i + 1) blocks)) none are_here

  module _ (n : Option ℕ) (ns : List (Option ℕ)) (first : rest ≡ n ∷ ns) where
    both : IsNumbered lists n (diff_of block) × AreNumbered lists ns (map diff_of (drop (i + 1) blocks))
    unfolding AreNumbered
    both = subst (λ (ms : List (Option ℕ)). AreNumbered lists ms (map diff_of (block ∷ drop (i + 1) blocks))) first are_here

    pub is_listed : listed_at lists n ≡ block.entry.diff
    is_listed = is_at lists n (diff_of block) both.0

    pub are_listed : AreNumbered lists ns (map diff_of (drop (i + 1) blocks))
    are_listed = both.1

pub one_listed : (blocks listed more : List HintBlock) (i : ℕ) (block : HintBlock) → i < length blocks → block ≡ get_or blocks i block → listed ≡ take i blocks → more ≡ listed ++ block ∷ [] → more ≡ take (i + 1) blocks
one_listed blocks listed more i block inside here so_far e =
    e ∙ ap (λ (bs : List HintBlock). bs ++ block ∷ []) so_far ∙ ap (λ (b : HintBlock). take i blocks ++ b ∷ []) here ∙ sym (take_more blocks i block inside)
