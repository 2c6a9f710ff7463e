use Rattle.std.proofs.Common.{◌≡◌, ◌∙◌, ◌++◌, [], ap, sym, Some, arith}
use Rattle.derivation_cursor.specs.At.{ahead_of}
use Rattle.fault_walk.proofs.Behind.{in_turn, on_ok}
use Rattle.fault_walk.proofs.Called.{faults_built}
use Rattle.fault_walk.specs.Lines.{called_built, name_faults}
use Rattle.fault_walk.specs.Told.{faults_more, told_more}
use Rattle.module_derivations.specs.FlatMarks.Flat.{behind}
use Rattle.module_derivations.specs.Ahead.{made_by}
use Rattle.module_derivations.specs.Empty.{made, said}
use Rattle.module_derivations.specs.Lines.{call_end}
use Rattle.module_derivations.specs.Said.{name_of}
use Rattle.module_spelling.specs.Blocks.{wanted_by_end, wanted_by_void}
use Rattle.named_modules.specs.Faults.{argument_faults, callee_faults, signature_in, stated_before, stated_faults, void_faults}
use Rattle.std.specs.List.{flat_map}
use Rattle.std.specs.Option.{option_map}
use Rattle.module_derivations.specs.declared.rule.TheConstants as rule
use Rattle.module_grammar.specs.declared.lines.VoidCallText.TheVariants as of_void
use Rattle.fault_walk.proofs.lines.note_void_call.Goals as goal

pub returns-in_ok-called-in-Some-eq159-clause-told : goal.returns-in_ok-called-in-Some-eq159-clause-told
returns-in_ok-called-in-Some-eq159-clause-told g c =
    let h = c.args.within.now.heads in
    let ts = c.args.within.now.things in
    let s = ahead_of c.args.c.now in
    let t = c.args.told.now in
    let calls = g.S.Gaps.called c.args.around.now in
    let q = ahead_of c.rule.new.self in
    let x = name_of (said q) in
    let k = stated_before calls c.args.is_stated x in
    let e = call_end (behind q) in
    let fs = flat_map (argument_faults h ts) e.arguments in
    let m = callee_faults h x k (signature_in h.signatures x.what) in
    let a = c.read_stated_before.new.told in
    let b = c.note_callee.new.told in
    let d = c.note_call_end.new.told in
    let begins : c.rule.result ≡ Some rule.PLAIN_CALL = grind arith in
    let is : (made s).void_call ≡ of_void.Call x e = ap (λ m. m.void_call) c.rule.ensures.made ∙ ap (λ r. (made_by r q).void_call) begins in
    let named : c.in_ok-name-in-Some-eq159.name ≡ x = c.in_ok-name-in-Some-eq159.ensures.said in
    let first : a ≡ faults_more (stated_faults h k) t = c.in_ok-called-in-Some-eq159.ensures.told
    ∙ ap (λ it. faults_more (stated_faults it (stated_before calls c.args.is_stated c.in_ok-name-in-Some-eq159.name)) t) (c.sight-sight.ensures)
    ∙ ap (λ it. faults_more (stated_faults h (stated_before calls c.args.is_stated it)) t) (named) in
    let called : c.in_ok-called-in-Some-eq159.called ≡ option_map called_built k = c.in_ok-called-in-Some-eq159.ensures.called ∙ ap (λ n. option_map called_built (stated_before calls c.args.is_stated n)) named in
    let second : b ≡ faults_more m a = c.note_callee.ensures
    ∙ ap (λ it. faults_more (name_faults it c.in_ok-name-in-Some-eq159.name c.in_ok-called-in-Some-eq159.called) a) (c.sight-sight.ensures)
    ∙ ap (λ it. faults_more (name_faults h it c.in_ok-called-in-Some-eq159.called) a) (named)
    ∙ ap (λ it. faults_more (name_faults h x it) a) (called)
    ∙ ap (λ z. faults_more z a) (faults_built h x k (signature_in h.signatures x.what)) in
    on_ok c.note_call_end.result
    (λ z. in_turn h (stated_faults h k) (m ++ fs) [] (wanted_by_end h e) t a d first
    (in_turn h m fs [] (wanted_by_end h e) a b d second
    (z ∙ ap (λ p. told_more h (flat_map (argument_faults h ts) (call_end p).arguments) (wanted_by_end h (call_end p)) b) c.in_ok-name-in-Some-eq159.ensures.passes.behind))
    ∙ sym (ap (λ v. told_more h (void_faults h calls ts c.args.is_stated v) (wanted_by_void h v) t) is))
    c.note_call_end.ensures.told
