-- Lines that are written one behind the other are those of all blocks, and of all functions.
use Rattle.std.proofs.Common.{◌≡◌, ◌∙◌, ◌<◌, ◌≤◌, ℕ, ◌+◌, List, [], ◌∷◌, ◌++◌, length, drop, take, get_or, Option, refl, sym, ap, subst, append_assoc}
use Rattle.std.proofs.lemmas.List.{append-nil, at_drop_all, drop_more, take_all, take_more}
use Rattle.ir_core.specs.declared.functions.Block.{Block}
use Rattle.ir_core.specs.declared.functions.Function.{Function}
use Rattle.ir_types.specs.declared.names.Name.{Name}
use Rattle.ir_types.specs.declared.names.Sigil.TheVariants as sigil
use Rattle.ir_printer.specs.ExpressionPrinter.Printed.{printed_name}
use Rattle.definedness.proofs.DefinitionLists.Unique.{lists_are_one}
use Rattle.crell_program.specs.DefinitionText.Lines.{AreLines, HasLines, registers_text, start_text, starts_text}

-- one name more is written, and one fewer is left
pub one_name_more : (names : List Name) (k : ℕ) (name : Name) (before told all : List ℕ) → k < length names → name ≡ get_or names k name
    → told ≡ before ++ (32 ∷ printed_name sigil.Local name) → before ++ registers_text (drop k names) ≡ all → told ++ registers_text (drop (k + 1) names) ≡ all
one_name_more names k name before told all within at more whole =
    let rest : List ℕ = registers_text (drop (k + 1) names) in
    let here : drop k names ≡ name ∷ drop (k + 1) names = drop_more names k name within ∙ ap (λ n. n ∷ drop (k + 1) names) (sym at) in
    ap (λ t. t ++ rest) more ∙ append_assoc before (32 ∷ printed_name sigil.Local name) rest
    ∙ ap (λ ns. before ++ registers_text ns) (sym here) ∙ whole

pub all_names_told : (names : List Name) (k : ℕ) (told all : List ℕ) → length names ≤ k → told ++ registers_text (drop k names) ≡ all → told ≡ all
all_names_told names k told all end whole = sym (append-nil told) ∙ ap (λ t. told ++ t) (sym (at_drop_all registers_text names k end)) ∙ whole

-- one line more is written, and one fewer is left
pub one_line_more : (function : Name) (bs : List Block) (lists : List (Option (List Name))) (k : ℕ) (b : Block) (list : Option (List Name)) (before told all : List ℕ)
    → k < length bs → k < length lists → b ≡ get_or bs k b → list ≡ get_or lists k list → told ≡ before ++ start_text function b.name list
    → before ++ starts_text function (drop k bs) (drop k lists) ≡ all → told ++ starts_text function (drop (k + 1) bs) (drop (k + 1) lists) ≡ all
one_line_more function bs lists k b list before told all in_blocks in_lists block_at list_at more whole =
    let rest : List ℕ = starts_text function (drop (k + 1) bs) (drop (k + 1) lists) in
    let block_here : drop k bs ≡ b ∷ drop (k + 1) bs = drop_more bs k b in_blocks ∙ ap (λ (x : Block). x ∷ drop (k + 1) bs) (sym block_at) in
    let list_here : drop k lists ≡ list ∷ drop (k + 1) lists = drop_more lists k list in_lists ∙ ap (λ (x : Option (List Name)). x ∷ drop (k + 1) lists) (sym list_at) in
    ap (λ t. t ++ rest) more ∙ append_assoc before (start_text function b.name list) rest
    ∙ ap (λ (xs : List Block). before ++ starts_text function xs (list ∷ drop (k + 1) lists)) (sym block_here)
    ∙ ap (λ (ls : List (Option (List Name))). before ++ starts_text function (drop k bs) ls) (sym list_here) ∙ whole

pub all_lines_told : (function : Name) (bs : List Block) (lists : List (Option (List Name))) (k : ℕ) (told all : List ℕ) → length bs ≤ k
    → told ++ starts_text function (drop k bs) (drop k lists) ≡ all → told ≡ all
all_lines_told function bs lists k told all end whole =
    sym (append-nil told) ∙ ap (λ t. told ++ t) (sym (at_drop_all (λ (xs : List Block). starts_text function xs (drop k lists)) bs k end)) ∙ whole

-- the lines of one function more
lines_more : (fs : List Function) (f : Function) (old new : List ℕ) → AreLines fs old → HasLines f old new → AreLines (fs ++ f ∷ []) new
lines_more [] f old new none has = (
  has.0,
  [],
  has.1,
  has.2 ∙ ap (λ t. t ++ starts_text f.name f.blocks has.0) none ∙ sym (append-nil (starts_text f.name f.blocks has.0)),
  refl,
)
lines_more (g ∷ fs) f old new are has =
    let own : List ℕ = starts_text g.name g.blocks are.0 in
    let more : List ℕ = starts_text f.name f.blocks has.0 in (
      are.0,
      are.1 ++ more,
      are.2,
      has.2 ∙ ap (λ t. t ++ more) are.3 ∙ append_assoc own are.1 more,
      lines_more fs f are.1 (are.1 ++ more) are.4 (has.0, has.1, refl),
    )

pub one_function_more : (fs : List Function) (k : ℕ) (f : Function) (old new : List ℕ) → k < length fs → f ≡ get_or fs k f
    → AreLines (take k fs) old → HasLines f old new → AreLines (take (k + 1) fs) new
one_function_more fs k f old new within at are has =
    let whole : take k fs ++ f ∷ [] ≡ take (k + 1) fs = ap (λ (x : Function). take k fs ++ x ∷ []) at ∙ sym (take_more fs k f within) in
    subst (λ (xs : List Function). AreLines xs new) whole (lines_more (take k fs) f old new are has)

pub all_functions_told : (fs : List Function) (k : ℕ) (told : List ℕ) → length fs ≤ k → AreLines (take k fs) told → AreLines fs told
all_functions_told fs k told end are = subst (λ (xs : List Function). AreLines xs told) (take_all k fs end) are

pub lines_are_one : (fs : List Function) (text other : List ℕ) → AreLines fs text → AreLines fs other → text ≡ other
lines_are_one [] text other are also = are ∙ sym also
lines_are_one (f ∷ fs) text other are also =
    are.3 ∙ ap (λ (lists : List (Option (List Name))). starts_text f.name f.blocks lists ++ are.1) (lists_are_one f are.0 also.0 are.2 also.2)
    ∙ ap (λ (rest : List ℕ). starts_text f.name f.blocks also.0 ++ rest) (lines_are_one fs are.1 also.1 are.4 also.4) ∙ sym also.3
