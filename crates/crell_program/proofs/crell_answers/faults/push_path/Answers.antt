use Rattle.std.proofs.Common.{◌≡◌, ◌∙◌, ◌<◌, ◌≤◌, ℕ, ◌+◌, List, ◌∷◌, ◌++◌, length, drop, get_or, sym, ap, append_assoc}
use Rattle.std.proofs.lemmas.List.{append-nil, at_drop_all, drop_more}
use Rattle.ir_types.specs.declared.names.Name.{Name}
use Rattle.ir_types.specs.declared.names.Sigil.TheVariants as sigil
use Rattle.ir_printer.specs.ExpressionPrinter.Printed.{printed_name}
use Rattle.crell_program.specs.CrellAnswers.Answer.{path_text}
use Rattle.crell_program.proofs.crell_answers.faults.push_path.Goals as goal

-- one name more is written, and one fewer is left
one_more : (names : List Name) (k : ℕ) (name : Name) (before told all : List ℕ) → k < length names → name ≡ get_or names k name
    → told ≡ before ++ (32 ∷ printed_name sigil.Local name) → before ++ path_text (drop k names) ≡ all → told ++ path_text (drop (k + 1) names) ≡ all
one_more names k name before told all within at more whole =
    let rest : List ℕ = path_text (drop (k + 1) names) in
    let here : drop k names ≡ name ∷ drop (k + 1) names = drop_more names k name within ∙ ap (λ n. n ∷ drop (k + 1) names) (sym at) in
    ap (λ t. t ++ rest) more ∙ append_assoc before (32 ∷ printed_name sigil.Local name) rest
    ∙ ap (λ ns. before ++ path_text ns) (sym here) ∙ whole

-- no name is left
all_told : (names : List Name) (k : ℕ) (told all : List ℕ) → length names ≤ k → told ++ path_text (drop k names) ≡ all → told ≡ all
all_told names k told all end whole = sym (append-nil told) ∙ ap (λ t. told ++ t) (sym (at_drop_all path_text names k end)) ∙ whole

pub loop-name-preserved : goal.loop-name-preserved
loop-name-preserved c =
    one_more c.args.names.now c.loop-name.name-index c.name-item.result c.loop-name.text.items _ _ c.loop-name-test.true c.name-item.is
    c.in_ok-push_block.ensures c.loop-name.invariant

pub returns : goal.returns
returns c = all_told c.args.names.now c.loop-name.name-index c.loop-name.text.items _ c.loop-name-test.false c.loop-name.invariant
