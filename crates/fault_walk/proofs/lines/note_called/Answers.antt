use Rattle.std.proofs.Common.{◌≡◌, ◌∙◌, ◌++◌, [], ap}
use Rattle.derivation_cursor.specs.At.{ahead_of}
use Rattle.fault_walk.proofs.Behind.{in_turn, on_ok}
use Rattle.fault_walk.proofs.Called.{faults_built}
use Rattle.fault_walk.specs.Lines.{name_faults}
use Rattle.fault_walk.specs.Told.{faults_more, told_more}
use Rattle.module_derivations.specs.FlatMarks.Flat.{behind, skip}
use Rattle.module_derivations.specs.Empty.{made}
use Rattle.module_derivations.specs.Lines.{call_end}
use Rattle.module_spelling.specs.Blocks.{wanted_by_end}
use Rattle.named_modules.specs.Constants.{global_name}
use Rattle.named_modules.specs.Faults.{argument_faults, callee_faults, signature_in, stated_faults}
use Rattle.std.specs.List.{flat_map}
use Rattle.fault_walk.proofs.lines.note_called.Goals as goal

pub returns-clause-told : goal.returns-clause-told
returns-clause-told c =
    let h = c.args.within.now.heads in
    let ts = c.args.within.now.things in
    let s = ahead_of c.args.c.now in
    let t = c.args.told.now in
    let k = (made s).function_type in
    let x = global_name (made (behind s)).global_name in
    let e = call_end (skip 2 s) in
    let fs = flat_map (argument_faults h ts) e.arguments in
    let a = c.read_function_type.new.told in
    let b = c.note_callee.new.told in
    let d = c.note_call_end.new.told in
    let m = callee_faults h x k (signature_in h.signatures x.what) in
    let first : a ≡ faults_more (stated_faults h k) t = c.in_ok-called.ensures.told
    ∙ ap (λ it. faults_more (stated_faults it k) t) (c.sight.ensures) in
    let named : c.in_ok-name.name ≡ x = c.in_ok-name.ensures.name ∙ ap (λ q. global_name (made q).global_name) c.in_ok-called.ensures.passes.behind in
    let second : b ≡ faults_more m a = c.note_callee.ensures
    ∙ ap (λ it. faults_more (name_faults it c.in_ok-name.name c.in_ok-called.called) a) (c.sight-2.ensures)
    ∙ ap (λ it. faults_more (name_faults h it c.in_ok-called.called) a) (named)
    ∙ ap (λ it. faults_more (name_faults h x it) a) (c.in_ok-called.ensures.called)
    ∙ ap (λ z. faults_more z a) (faults_built h x k (signature_in h.signatures x.what)) in
    on_ok c.note_call_end.result
    (λ z. in_turn h (stated_faults h k) (m ++ fs) [] (wanted_by_end h e) t a d first
    (in_turn h m fs [] (wanted_by_end h e) a b d second
    (z
    ∙ ap (λ it. told_more h (flat_map (argument_faults h ts) (call_end it).arguments) (wanted_by_end h (call_end it)) b) (c.in_ok-name.ensures.passes.behind ∙ ap behind c.in_ok-called.ensures.passes.behind))))
    c.note_call_end.ensures.told
