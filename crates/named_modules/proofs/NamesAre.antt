-- The names of the function that is built are those that its text defines.
use Rattle.std.proofs.Common.{◌≡◌, ◌∙◌, ℕ, Bool, true, false, ◌&&◌, cond, List, [], ◌∷◌, ◌++◌, map, Option, Some, None, refl, sym, ap, append_assoc}
use Rattle.std.specs.Prelude.{not, is_some}
use Rattle.std.specs.List.{cons_option, filter, flat_map}
use Rattle.std.proofs.lemmas.List.{map-append}
use Rattle.ir_core.specs.declared.functions.Param.{Param}
use Rattle.ir_core.specs.Functions.{block_names, name_set, named_register, names_in, names_of, phi_registers, set_by, type_set}
use Rattle.ir_types.specs.declared.named.NamedTy.{NamedTy}
use Rattle.ir_types.specs.declared.names.Name.{Name}
use Rattle.ir_types.specs.declared.ty.Ty.{Ty}
use Rattle.module_grammar.specs.declared.flow.BlockText.{BlockText}
use Rattle.module_grammar.specs.declared.flow.PhiText.{PhiText}
use Rattle.module_grammar.specs.declared.functions.DefinitionText.{DefinitionText}
use Rattle.module_grammar.specs.declared.functions.ParamText.{ParamText}
use Rattle.module_grammar.specs.declared.lines.CallBodyText.{CallBodyText}
use Rattle.module_grammar.specs.declared.lines.CallBodyText.TheVariants as body
use Rattle.module_grammar.specs.declared.lines.InstructionText.{InstructionText}
use Rattle.module_grammar.specs.declared.lines.InstructionText.TheVariants as instruction
use Rattle.module_grammar.specs.declared.lines.LineText.{LineText}
use Rattle.module_grammar.specs.declared.lines.VoidCallText.{VoidCallText}
use Rattle.module_grammar.specs.declared.lines.VoidCallText.TheVariants as of_void
use Rattle.module_grammar.specs.declared.places.Placed.{Placed}
use Rattle.module_grammar.specs.declared.types.TypeText.{TypeText}
use Rattle.named_modules.specs.Built.{block_from, blocks_from, due_after_line, due_behind, due_behind_line, due_behind_lines, due_behind_phis, due_from, due_in, function_of, kept_lines, label_name, line_at, lines_from, name_due, params_from, phis_from, result_name}
use Rattle.named_modules.specs.Faults.{Written, block_written, defined, due_behind_written, function_written, line_written, sets}
use Rattle.named_modules.specs.Functions.{blocks_in}
use Rattle.named_modules.specs.Lines.{is_dropped, is_kept}
use Rattle.named_modules.proofs.Ordered.{name_defined, names_from}

abbrev pub due_over : ℕ → List Written → ℕ
due_over due [] = due
due_over due (w ∷ ws) = due_over (due_behind_written due w) ws

pub due_append : (xs ys : List Written) (due : ℕ) → due_over due (xs ++ ys) ≡ due_over (due_over due xs) ys
due_append [] ys due = refl
due_append (x ∷ xs) ys due = due_append xs ys (due_behind_written due x)

pub names_append : (xs ys : List Written) (due : ℕ) → names_from due (xs ++ ys) ≡ names_from due xs ++ names_from (due_over due xs) ys
names_append [] ys due = refl
names_append (x ∷ xs) ys due =
    let next = due_behind_written due x in
    ap (λ ns. name_defined due x ++ ns) (names_append xs ys next) ∙ sym (append_assoc (name_defined due x) (names_from next xs) (names_from (due_over next xs) ys))

-- ---- what is defined by all of them

pub due_defined : {A : Type 0} (name : A → Option (Placed Name)) (xs : List A) (due : ℕ) → due_over due (map (λ x. defined (name x)) xs) ≡ due_from due (map name xs)
due_defined name [] due = refl
due_defined name (x ∷ xs) due = due_defined name xs (due_behind due (name x))

params_names : (due : ℕ) (ps : List ParamText) → names_in (map (λ (p : Param). (p.name, p.ty)) (params_from due ps)) ≡ names_from due (map (λ (p : ParamText). defined p.name) ps)
params_names due [] = refl
params_names due (p ∷ ps) = ap (λ ns. name_due due p.name ∷ ns) (params_names (due_behind due p.name) ps)

phis_names : (due : ℕ) (ps : List PhiText) → names_in (phi_registers (phis_from due ps)) ≡ names_from due (map (λ (p : PhiText). defined p.register) ps)
phis_names due [] = refl
phis_names due (p ∷ ps) = ap (λ ns. name_due due p.register ∷ ns) (phis_names (due_behind due p.register) ps)

-- ---- lines

result_set : (due : ℕ) (register : Option (Placed Name)) (of : Option TypeText) → result_name due register of ≡ cond (is_some (result_name 0 None of)) (Some (name_due due register)) None
result_set due register None = refl
result_set due register (Some w) = refl

abbrev call : Bool → CallBodyText → InstructionText
call tail b = instruction.Call (record { tail = tail; body = b })

abbrev SetsSo : List NamedTy → ℕ → Option (Placed Name) → InstructionText → Type 0
SetsSo types due register i = name_set (line_at types due register i) ≡ cond (sets i) (Some (name_due due register)) None

void_set : (types : List NamedTy) (due : ℕ) (register : Option (Placed Name)) (tail is_stated : Bool) (v : VoidCallText) → SetsSo types due register (call tail (body.Void (record { is_stated = is_stated; call = v })))
void_set types due register tail is_stated (of_void.Call x end) = refl
void_set types due register tail is_stated (of_void.Debug x attributes) = refl

call_set : (types : List NamedTy) (due : ℕ) (register : Option (Placed Name)) (tail : Bool) (b : CallBodyText) → SetsSo types due register (call tail b)
call_set types due register tail (body.Convention attributes c end) = result_set due register c.result
call_set types due register tail (body.Attributes first others c end) = result_set due register c.result
call_set types due register tail (body.Typed t c x end) = refl
call_set types due register tail (body.Void v) = void_set types due register tail v.is_stated v.call

line_set : (types : List NamedTy) (due : ℕ) (register : Option (Placed Name)) (i : InstructionText) → SetsSo types due register i
line_set types due register (instruction.Operation w) = refl
line_set types due register (instruction.Element w) = refl
line_set types due register (instruction.Alloca w) = refl
line_set types due register (instruction.Load w) = refl
line_set types due register (instruction.Store w) = refl
line_set types due register (instruction.Call w) = call_set types due register w.tail w.body

named_cons : (t : Ty) (o : Option Name) (rs : List (Name × Ty)) → names_in (cons_option (named_register t o) rs) ≡ cons_option o (names_in rs)
named_cons t None rs = refl
named_cons t (Some x) rs = refl

cons_if : (b : Bool) (x : Name) (ns : List Name) → cons_option (cond b (Some x) None) ns ≡ cond b (x ∷ []) [] ++ ns
cons_if true x ns = refl
cons_if false x ns = refl

due_if : (b : Bool) (due : ℕ) (x : Name) (register : Option (Placed Name)) → due_after_line due (cond b (Some x) None) register ≡ cond b (due_behind due register) due
due_if true due x register = refl
due_if false due x register = refl

due_line : (types : List NamedTy) (due : ℕ) (w : LineText) → due_behind_line types due w ≡ due_behind_written due (line_written w)
due_line types due w =
    let i = w.attached.instruction in
    ap (λ o. due_after_line due o w.register) (line_set types due w.register i) ∙ due_if (sets i) due (name_due due w.register) w.register

-- the lines that are left where a line is dropped, or is not
abbrev pub kept_behind : Bool → LineText → List LineText → List LineText
kept_behind is_dropped w ws = cond (not is_dropped) (w ∷ ws) ws

-- what is dropped sets nothing
none_set : (i : InstructionText) → is_dropped i ≡ true → sets i ≡ false
none_set i e = ap (λ b. not b && is_some (name_set (line_at [] 0 None i))) e

lines_due : (types : List NamedTy) (due : ℕ) (ws : List LineText) → due_behind_lines types due (filter is_kept ws) ≡ due_over due (map line_written ws)
lines_due types due [] = refl
lines_due types due (w ∷ ws) = by (is_dropped w.attached.instruction) refl (λ next. lines_due types next ws)
  where
    by : (b : Bool) → is_dropped w.attached.instruction ≡ b → ((next : ℕ) → due_behind_lines types next (filter is_kept ws) ≡ due_over next (map line_written ws)) → due_behind_lines types due (kept_behind b w (filter is_kept ws)) ≡ due_over (due_behind_written due (line_written w)) (map line_written ws)
    by true is rest =
        rest due ∙ ap (λ b. due_over (cond b (due_behind due w.register) due) (map line_written ws)) (sym (none_set w.attached.instruction is))
    by false is rest = ap (λ k. due_behind_lines types k (filter is_kept ws)) (due_line types due w) ∙ rest (due_behind_written due (line_written w))

lines_names : (types : List NamedTy) (due : ℕ) (ws : List LineText) → names_in (set_by (lines_from types due (filter is_kept ws))) ≡ names_from due (map line_written ws)
lines_names types due [] = refl
lines_names types due (w ∷ ws) = by (is_dropped w.attached.instruction) refl (λ next. lines_names types next ws)
  where
    by : (b : Bool) → is_dropped w.attached.instruction ≡ b → ((next : ℕ) → names_in (set_by (lines_from types next (filter is_kept ws))) ≡ names_from next (map line_written ws)) → names_in (set_by (lines_from types due (kept_behind b w (filter is_kept ws)))) ≡ name_defined due (line_written w) ++ names_from (due_behind_written due (line_written w)) (map line_written ws)
    by true is rest =
        rest due ∙ ap (λ b. cond b (name_due due w.register ∷ []) [] ++ names_from (cond b (due_behind due w.register) due) (map line_written ws)) (sym (none_set w.attached.instruction is))
    by false is rest =
        let i = w.attached.instruction in
        let line = line_at types due w.register i in
        let more = set_by (lines_from types (due_behind_line types due w) (filter is_kept ws)) in
        named_cons (type_set line) (name_set line) more
        ∙ ap (λ o. cons_option o (names_in more)) (line_set types due w.register i)
        ∙ cons_if (sets i) (name_due due w.register) (names_in more)
        ∙ ap (λ k. name_defined due (line_written w) ++ names_in (set_by (lines_from types k (filter is_kept ws)))) (due_line types due w)
        ∙ ap (λ ns. name_defined due (line_written w) ++ ns) (rest (due_behind_written due (line_written w)))

-- ---- blocks

phis_due : (due : ℕ) (w : BlockText) → due_behind_phis due w ≡ due_over (due_in due w) (map (λ (p : PhiText). defined p.register) w.body.phis)
phis_due due w = sym (due_defined (λ (p : PhiText). p.register) w.body.phis (due_in due w))

pub block_due : (types : List NamedTy) (due : ℕ) (w : BlockText) → due_behind_lines types (due_behind_phis due w) (kept_lines w) ≡ due_over due (block_written w)
block_due types due w =
    let phis = map (λ (p : PhiText). defined p.register) w.body.phis in
    let lines = map line_written w.body.lines in
    lines_due types (due_behind_phis due w) w.body.lines ∙ ap (λ k. due_over k lines) (phis_due due w) ∙ sym (due_append phis lines (due_in due w))

block_names_are : (types : List NamedTy) (due : ℕ) (w : BlockText) → block_names (block_from types due w) ≡ names_from due (block_written w)
block_names_are types due w =
    let next = due_in due w in
    let count = due_behind_phis due w in
    let phis = map (λ (p : PhiText). defined p.register) w.body.phis in
    let lines = map line_written w.body.lines in
    ap (λ ns. name_due due (label_name w.label) ∷ ns)
    (map-append (λ (r : Name × Ty). r.0) (phi_registers (phis_from next w.body.phis)) (set_by (lines_from types count (kept_lines w)))
    ∙ ap (λ ns. ns ++ names_in (set_by (lines_from types count (kept_lines w)))) (phis_names next w.body.phis)
    ∙ ap (λ ns. names_from next phis ++ ns) (lines_names types count w.body.lines)
    ∙ ap (λ k. names_from next phis ++ names_from k lines) (phis_due due w)
    ∙ sym (names_append phis lines next))

blocks_names : (types : List NamedTy) (due : ℕ) (ws : List BlockText) → flat_map block_names (blocks_from types due ws) ≡ names_from due (flat_map block_written ws)
blocks_names types due [] = refl
blocks_names types due (w ∷ ws) =
    let next = due_behind_lines types (due_behind_phis due w) (kept_lines w) in
    ap (λ ns. ns ++ flat_map block_names (blocks_from types next ws)) (block_names_are types due w)
    ∙ ap (λ ns. names_from due (block_written w) ++ ns) (blocks_names types next ws)
    ∙ ap (λ k. names_from due (block_written w) ++ names_from k (flat_map block_written ws)) (block_due types due w)
    ∙ sym (names_append (block_written w) (flat_map block_written ws) due)

pub names_are : (types : List NamedTy) (w : DefinitionText) → names_of (function_of types w) ≡ names_from 0 (function_written w)
names_are types w =
    let ps = map (λ (p : ParamText). defined p.name) w.head.params in
    let bs = flat_map block_written (blocks_in w) in
    let count = due_from 0 (map (λ (p : ParamText). p.name) w.head.params) in
    ap (λ ns. ns ++ flat_map block_names (blocks_from types count (blocks_in w))) (params_names 0 w.head.params)
    ∙ ap (λ ns. names_from 0 ps ++ ns) (blocks_names types count (blocks_in w))
    ∙ ap (λ k. names_from 0 ps ++ names_from k bs) (sym (due_defined (λ (p : ParamText). p.name) w.head.params 0))
    ∙ sym (names_append ps bs 0)
