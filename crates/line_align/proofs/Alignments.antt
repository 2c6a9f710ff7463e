-- Alignment, one letter at a time.
use Rattle.std.proofs.Common.{◌≡◌, ◌&&◌, ◌∙◌, true, List, [], ◌∷◌, refl, sym, ap}
use Rattle.std.specs.Prelude.{Option, None, Some}
use Rattle.ir_core.specs.declared.functions.Instr.{Instr}
use Rattle.erhl_assert.specs.declared.hints.Letter.{Letter}
use Rattle.erhl_assert.specs.declared.hints.Letter.TheVariants.{Both, Source, Target}
use Rattle.erhl_assert.specs.Alignment.{Line, after_first, aligned}
use Rattle.line_align.specs.Cursor.{on_source, on_target, left, is_none, stands, aligned_line, is_aligned}
use Rattle.line_align.specs.Lent.{lines_under}
use Rattle.ir_types.specs.NameLaws.{left_true, right_true}

is_aligned_after : (l : Line) (o : Option (List Line)) → is_aligned (after_first l o) ≡ is_aligned o
is_aligned_after l None = refl
is_aligned_after l (Some ls) = refl

pub is_aligned_more : (l : Letter) (ls : List Letter) (xs ys : List Instr)
    → is_aligned (aligned (l ∷ ls) xs ys) ≡ (stands l xs ys && is_aligned (aligned ls (left (on_source l) xs) (left (on_target l) ys)))
is_aligned_more Both ls [] [] = refl
is_aligned_more Both ls [] (y ∷ ys) = refl
is_aligned_more Both ls (x ∷ xs) [] = refl
is_aligned_more Both ls (x ∷ xs) (y ∷ ys) = is_aligned_after _ (aligned ls xs ys)
is_aligned_more Source ls [] [] = refl
is_aligned_more Source ls [] (y ∷ ys) = refl
is_aligned_more Source ls (x ∷ xs) [] = is_aligned_after _ (aligned ls xs [])
is_aligned_more Source ls (x ∷ xs) (y ∷ ys) = is_aligned_after _ (aligned ls xs (y ∷ ys))
is_aligned_more Target ls [] [] = refl
is_aligned_more Target ls (x ∷ xs) [] = refl
is_aligned_more Target ls [] (y ∷ ys) = is_aligned_after _ (aligned ls [] ys)
is_aligned_more Target ls (x ∷ xs) (y ∷ ys) = is_aligned_after _ (aligned ls (x ∷ xs) ys)

pub is_aligned_end : (xs ys : List Instr) → is_aligned (aligned [] xs ys) ≡ (is_none xs && is_none ys)
is_aligned_end [] [] = refl
is_aligned_end [] (y ∷ ys) = refl
is_aligned_end (x ∷ xs) [] = refl
is_aligned_end (x ∷ xs) (y ∷ ys) = refl

pub aligned_more : (l : Letter) (ls : List Letter) (xs ys : List Instr) → stands l xs ys ≡ true
    → aligned (l ∷ ls) xs ys ≡ after_first (aligned_line l xs ys) (aligned ls (left (on_source l) xs) (left (on_target l) ys))
aligned_more Both ls [] ys h = cc
aligned_more Both ls (x ∷ xs) [] h = cc
aligned_more Both ls (x ∷ xs) (y ∷ ys) h = refl
aligned_more Source ls [] ys h = cc
aligned_more Source ls (x ∷ xs) [] h = refl
aligned_more Source ls (x ∷ xs) (y ∷ ys) h = refl
aligned_more Target ls xs [] h = cc
aligned_more Target ls [] (y ∷ ys) h = refl
aligned_more Target ls (x ∷ xs) (y ∷ ys) h = refl

-- where letters give back both bodies, the aligned lines are those that the letters take
pub aligned_under : (ls : List Letter) (xs ys : List Instr) → is_aligned (aligned ls xs ys) ≡ true → aligned ls xs ys ≡ Some (lines_under ls xs ys)
aligned_under [] [] [] h = refl
aligned_under [] [] (y ∷ ys) h = absurd (cc)
aligned_under [] (x ∷ xs) ys h = absurd (cc)
aligned_under (l ∷ ls) xs ys h =
    let xs' = left (on_source l) xs in
    let ys' = left (on_target l) ys in
    let rest = is_aligned (aligned ls xs' ys') in
    let split : (stands l xs ys && rest) ≡ true = sym (is_aligned_more l ls xs ys) ∙ h in
    aligned_more l ls xs ys (left_true (stands l xs ys) rest split)
    ∙ ap (after_first (aligned_line l xs ys)) (aligned_under ls xs' ys' (right_true (stands l xs ys) rest split))
