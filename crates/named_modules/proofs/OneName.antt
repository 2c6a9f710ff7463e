-- A name, and a line, is one alone where names are counted.
use Rattle.std.proofs.Common.{◌≡◌, ◌∙◌, ℕ, ◌<◌, ◌^◌, Bool, true, false, cond, List, [], ◌∷◌, ◌++◌, Option, Some, None, refl, sym, ap, subst, lt-ltb}
use Rattle.std.specs.List.{AllZip, cons_option}
use Rattle.ir_core.specs.declared.expressions.Expr.{Expr}
use Rattle.ir_core.specs.declared.expressions.Expr.TheVariants as expr
use Rattle.ir_core.specs.declared.functions.Call.{Call}
use Rattle.ir_core.specs.declared.functions.Calm.{Calm}
use Rattle.ir_core.specs.declared.functions.Instr.{Instr}
use Rattle.ir_core.specs.declared.functions.Instr.TheVariants as instr
use Rattle.ir_core.specs.declared.modules.Module.{Module}
use Rattle.ir_core.specs.Functions.{name_set, named_register, names_in, set_by, type_set}
use Rattle.ir_core.specs.Types.{is_first_class}
use Rattle.ir_core.specs.Order.{AreCounted, Counts}
use Rattle.ir_types.specs.declared.names.Name.{Name}
use Rattle.ir_types.specs.declared.names.Name.TheVariants.{Text, Number}
use Rattle.ir_types.specs.declared.ty.Ty.{Ty}
use Rattle.module_grammar.specs.declared.attributes.ParamAttributeText.{ParamAttributeText}
use Rattle.module_grammar.specs.declared.lines.CallBodyText.{CallBodyText}
use Rattle.module_grammar.specs.declared.lines.CallBodyText.TheVariants as body
use Rattle.module_grammar.specs.declared.lines.CallEndText.{CallEndText}
use Rattle.module_grammar.specs.declared.lines.ElementText.{ElementText}
use Rattle.module_grammar.specs.declared.lines.InstructionText.{InstructionText}
use Rattle.module_grammar.specs.declared.lines.InstructionText.TheVariants as instruction
use Rattle.module_grammar.specs.declared.lines.LineText.{LineText}
use Rattle.module_grammar.specs.declared.lines.LoadText.{LoadText}
use Rattle.module_grammar.specs.declared.lines.VoidCallText.{VoidCallText}
use Rattle.module_grammar.specs.declared.lines.VoidCallText.TheVariants as of_void
use Rattle.module_grammar.specs.declared.places.Placed.{Placed}
use Rattle.module_grammar.specs.declared.types.CalledText.{CalledText}
use Rattle.module_grammar.specs.declared.types.TypeText.{TypeText}
use Rattle.named_modules.specs.Built.{call_of, calm, due_after_line, due_behind, due_behind_line, due_behind_lines, label_name, line_at, lines_from, name_due, operation_of, result_name, void_called}
use Rattle.named_modules.specs.Constants.{global_name}
use Rattle.named_modules.specs.Lines.{IsCall, IsInstruction, IsLine, IsResult, IsResultNamed, IsRight, IsVoidCallee, NamesCall, Stated}
use Rattle.named_modules.specs.Values.{IsNamed, Registers}
use Rattle.named_modules.proofs.CallTies.{call_to}
use Rattle.named_modules.proofs.LineTies.{not_void}
use Rattle.named_modules.proofs.OneLine.{alloca_is, called_is, element_is, element_of, load_is, load_of, operation_is, store_is}
use Rattle.named_modules.proofs.Ordered.{counts_once}
use Rattle.named_modules.proofs.ValueTies.{first_class}

-- ---- one name

pub next_is : (due : ℕ) (w : Option (Placed Name)) (next : ℕ) → Counts due (name_due due w) next → next ≡ due_behind due w
next_is due None next counts = counts.1
next_is due (Some w) next counts = counts_once due w.what next counts

pub name_is : (due : ℕ) (w : Option (Placed Name)) (name : Name) (next : ℕ) → IsNamed w name → Counts due name next → name ≡ name_due due w
name_is due None (Number n) next is counts =
    let fits : due < 2 ^ 32 = subst (λ k. k < 2 ^ 32) counts.0 is in
    ap Number (counts.0 ∙ sym (ap (λ b. cond b due 0) (lt-ltb due (2 ^ 32) fits)))
name_is due None (Text bytes) next is counts = absurd is
name_is due (Some w) name next is counts = is

pub behind_is : (due : ℕ) (w : Option (Placed Name)) (name : Name) (next : ℕ) → IsNamed w name → Counts due name next → next ≡ due_behind due w
behind_is due w name next is counts = next_is due w next (subst (λ n. Counts due n next) (name_is due w name next is counts) counts)

pub label_is : (w : Option (Placed Name)) (name : Name) → IsNamed w name → IsNamed (label_name w) name
label_is None name is = is
label_is (Some w) name is = is

-- ---- one line

some_name : (a b : Name) → Some a ≡ Some b → a ≡ b
some_name a b e = cc

module _ (m : Module) (rs : Registers) (told : Placed Name → CalledText) where
  abbrev stated : Stated
  stated x c = c ≡ told x

  -- whatever it sets is named so
  abbrev IsSet : ℕ → Option (Placed Name) → Option Name → Type 0
  IsSet due register set = (x : Name) → set ≡ Some x → x ≡ name_due due register

  calm_is : (due : ℕ) (register : Option (Placed Name)) (c : Calm) (right : Expr Name) → IsSet due register (Some c.name) → c.right ≡ right → instr.Calm c ≡ calm due register right
  calm_is due register c right set e =
      ap instr.Calm (ap (λ x. record c { name = x }) (set c.name refl) ∙ ap (λ r. let one : Calm = record { name = name_due due register; right = r } in one) e)

  element_right : (w : ElementText) (e : Expr Name) → IsRight m rs (instruction.Element w) e → e ≡ expr.Element (element_of m rs w)
  element_right w (expr.Element e) is = ap expr.Element (element_is m rs w e is)
  element_right w e is = absurd is

  load_right : (w : LoadText) (e : Expr Name) → IsRight m rs (instruction.Load w) e → e ≡ expr.Load (load_of m rs w)
  load_right w (expr.Load l) is = ap expr.Load (load_is m rs w l is)
  load_right w e is = absurd is

  -- void has no name, and another result has one
  result_named_is : (due : ℕ) (register : Option (Placed Name)) (of : Option TypeText) (t : Ty) (o : Option Name) → IsResult m of t → IsResultNamed register t o → IsSet due register o → o ≡ result_name due register of
  result_named_is due register None t None result is set = refl
  result_named_is due register None t (Some x) result is set = absurd (is.1 result)
  result_named_is due register (Some w) t None result is set = absurd (not_void t (subst (λ u. is_first_class u ≡ true) (sym result.0) (first_class m w t result)) is.1)
  result_named_is due register (Some w) t (Some x) result is set = ap Some (set x refl)

  called_line : (due : ℕ) (register : Option (Placed Name)) (attributes : List ParamAttributeText) (of : Option TypeText) (states : Option CalledText) (x : Placed Name) (end : CallEndText) (c : Call) → NamesCall m rs attributes of states x end c → IsResultNamed register c.result c.name → IsSet due register c.name → instr.Call c ≡ instr.Call (call_to (result_name due register of) attributes of x end)
  called_line due register attributes of states x end c n is set =
      ap instr.Call (called_is m rs (result_name due register of) attributes of states x end c n (result_named_is due register of c.result c.name n.result is set))

  void_is : (due : ℕ) (register : Option (Placed Name)) (is_stated : Bool) (v : VoidCallText) (c : Call) → IsVoidCallee m rs stated is_stated v c → IsResultNamed register c.result c.name → IsSet due register c.name → instr.Call c ≡ void_called due v
  void_is due register false (of_void.Call x end) c n is set = called_line due register [] None None x end c n is set
  void_is due register true (of_void.Call x end) c n is set = called_line due register [] None (Some n.0) x end c n.2 is set
  void_is due register is_stated (of_void.Debug x attributes) c n is set = absurd n

  call_is : (due : ℕ) (register : Option (Placed Name)) (b : CallBodyText) (c : Call) → IsCall m rs stated b c → IsResultNamed register c.result c.name → IsSet due register c.name → instr.Call c ≡ call_of due register b
  call_is due register (body.Convention attributes callee end) c n is set = called_line due register attributes callee.result callee.called (global_name callee.name) end c n is set
  call_is due register (body.Attributes first others callee end) c n is set = called_line due register (first ∷ others) callee.result callee.called (global_name callee.name) end c n is set
  call_is due register (body.Typed t called x end) c n is set = called_line due register [] (Some t) called (global_name x) end c n is set
  call_is due register (body.Void v) c n is set = void_is due register v.is_stated v.call c n is set

  instruction_is : (due : ℕ) (register : Option (Placed Name)) (i : InstructionText) (l : Instr) → IsInstruction m rs stated register i l → IsSet due register (name_set l) → l ≡ line_at m.types due register i
  instruction_is due register (instruction.Operation w) (instr.Calm c) is set = calm_is due register c (operation_of w) set (operation_is m rs w c.right is.1)
  instruction_is due register (instruction.Element w) (instr.Calm c) is set = calm_is due register c (expr.Element (element_of m rs w)) set (element_right w c.right is.1)
  instruction_is due register (instruction.Load w) (instr.Calm c) is set = calm_is due register c (expr.Load (load_of m rs w)) set (load_right w c.right is.1)
  instruction_is due register (instruction.Alloca w) (instr.Alloca a) is set = ap instr.Alloca (alloca_is m rs (name_due due register) w a (set a.name refl) is.1)
  instruction_is due register (instruction.Store w) (instr.Store s) is set = ap instr.Store (store_is m rs w s is.1)
  instruction_is due register (instruction.Call w) (instr.Call c) is set = call_is due register w.body c is.1 is.0 set
  instruction_is due register i (instr.Calm c) is set = absurd is.1
  instruction_is due register i l is set = absurd is

  -- what a line sets is what is written there
  set_named : (register : Option (Placed Name)) (i : InstructionText) (l : Instr) (x : Name) → IsInstruction m rs stated register i l → name_set l ≡ Some x → IsNamed register x
  set_named register i (instr.Calm c) x is e = subst (IsNamed register) (some_name c.name x e) is.0
  set_named register (instruction.Alloca w) (instr.Alloca a) x is e = subst (IsNamed register) (some_name a.name x e) is.0
  set_named register (instruction.Store w) (instr.Store s) x is e = cc
  set_named register (instruction.Call w) (instr.Call c) x is e =
      (subst (λ o. IsResultNamed register c.result o) e is.0).0
  set_named register i l x is e = absurd is

  pub record LinesAre (ws : List LineText) (ls : List Instr) (due : ℕ) (more : List Name) (count : ℕ) : Type 0 where
    pub same : ls ≡ lines_from m.types due ws
    pub counted : AreCounted (due_behind_lines m.types due ws) more count

  -- what is counted at a line
  record LineIs (w : LineText) (l : Instr) (due : ℕ) (names : List Name) (count : ℕ) : Type 0 where
    same : l ≡ line_at m.types due w.register w.attached.instruction
    counted : AreCounted (due_behind_line m.types due w) names count

  behind_line : (w : LineText) (l : Instr) (due : ℕ) (names : List Name) (count : ℕ) → l ≡ line_at m.types due w.register w.attached.instruction → AreCounted (due_after_line due (name_set l) w.register) names count → LineIs w l due names count
  behind_line w l due names count same counted =
      record { same = same; counted = subst (λ k. AreCounted k names count) (ap (λ i. due_after_line due (name_set i) w.register) same) counted }

  line_is : (w : LineText) (l : Instr) (due : ℕ) (names : List Name) (count : ℕ) → IsLine m rs stated w l → AreCounted due (cons_option (name_set l) names) count → LineIs w l due names count
  line_is w l due names count is counted = by (name_set l) refl counted
    where
      by : (o : Option Name) → name_set l ≡ o → AreCounted due (cons_option o names) count → LineIs w l due names count
      by None e counted =
          behind_line w l due names count (instruction_is due w.register w.attached.instruction l is (λ x f. let wrong : None ≡ Some x = sym e ∙ f in cc)) (subst (λ o. AreCounted (due_after_line due o w.register) names count) (sym e) counted)
      by (Some x) e counted =
          let named = set_named w.register w.attached.instruction l x is e in
          let x_is = name_is due w.register x counted.0 named counted.1 in
          let next = behind_is due w.register x counted.0 named counted.1 in
          behind_line w l due names count (instruction_is due w.register w.attached.instruction l is (λ y f. let one : Some x ≡ Some y = sym e ∙ f in let same : x ≡ y = cc in sym same ∙ x_is))
          (subst (λ o. AreCounted (due_after_line due o w.register) names count) (sym e) (subst (λ k. AreCounted k names count) next counted.2))

  set_names : (l : Instr) (ls : List Instr) (more : List Name) → names_in (set_by (l ∷ ls)) ++ more ≡ cons_option (name_set l) (names_in (set_by ls) ++ more)
  set_names l ls more = by (name_set l) (type_set l)
    where
      by : (o : Option Name) (t : Ty) → names_in (cons_option (named_register t o) (set_by ls)) ++ more ≡ cons_option o (names_in (set_by ls) ++ more)
      by None t = refl
      by (Some x) t = refl

  pub lines_are : (ws : List LineText) (ls : List Instr) (due : ℕ) (more : List Name) (count : ℕ) → AllZip (IsLine m rs stated) ws ls → AreCounted due (names_in (set_by ls) ++ more) count → LinesAre ws ls due more count
  lines_are [] [] due more count zip counted = record { same = refl; counted = counted }
  lines_are [] (l ∷ ls) due more count zip counted = absurd zip
  lines_are (w ∷ ws) [] due more count zip counted = absurd zip
  lines_are (w ∷ ws) (l ∷ ls) due more count zip counted =
      let first = line_is w l due (names_in (set_by ls) ++ more) count zip.0 (subst (λ ns. AreCounted due ns count) (set_names l ls more) counted) in
      let rest = lines_are ws ls (due_behind_line m.types due w) more count zip.1 first.counted in
      record { same = ap (λ i. i ∷ ls) first.same ∙ ap (λ is. line_at m.types due w.register w.attached.instruction ∷ is) rest.same; counted = rest.counted }
