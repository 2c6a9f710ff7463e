-- What stands in the tokens around names of which the tree doesn't keep it.
use Rattle.std.proofs.Common.{◌≡◌, ◌+◌, ℕ, Bool, true, false, cond, List, [], ◌∷◌, ◌++◌, refl, ap, sym, ◌∙◌, append_assoc, subst}
use Rattle.std.specs.List.{Contains, filter_map, flat_map}
use Rattle.std.proofs.Math.Logic.{⊎_elim}
use Rattle.predictive.specs.Fills.{Fills}
use Rattle.ir_types.specs.declared.names.Name.{Name}
use Rattle.module_grammar.specs.Attributes.{attachments, function_attribute, unnamed_addr as addr}
use Rattle.module_grammar.specs.Attributes as attributes
use Rattle.module_grammar.specs.Balanced.{IsBalanced}
use Rattle.module_grammar.specs.Flow as flow
use Rattle.module_grammar.specs.Functions as functions
use Rattle.module_grammar.specs.Lines as lines
use Rattle.module_grammar.specs.Modules as modules
use Rattle.module_grammar.specs.Symbols.{Brace, Debug, Global, Symbol, balanced, close_brace, close_paren, declare, define, open_paren, unnamed_addr, void}
use Rattle.module_grammar.specs.Symbols as symbol
use Rattle.module_grammar.specs.Texts.{is_balanced}
use Rattle.module_grammar.specs.declared.flow.BlockText.{BlockText}
use Rattle.module_grammar.specs.declared.functions.DeclarationText.{DeclarationText}
use Rattle.module_grammar.specs.declared.functions.DeclaredNameText.{DeclaredNameText}
use Rattle.module_grammar.specs.declared.functions.DeclaredNameText.TheVariants as declared
use Rattle.module_grammar.specs.declared.functions.DefinitionText.{DefinitionText}
use Rattle.module_grammar.specs.declared.items.ItemText.{ItemText}
use Rattle.module_grammar.specs.declared.items.ItemText.TheVariants as item
use Rattle.module_grammar.specs.declared.lines.CallBodyText.{CallBodyText}
use Rattle.module_grammar.specs.declared.lines.CallBodyText.TheVariants as call
use Rattle.module_grammar.specs.declared.lines.InstructionText.{InstructionText}
use Rattle.module_grammar.specs.declared.lines.InstructionText.TheVariants as instruction
use Rattle.module_grammar.specs.declared.lines.LineText.{LineText}
use Rattle.module_grammar.specs.declared.lines.VoidCallText.{VoidCallText}
use Rattle.module_grammar.specs.declared.lines.VoidCallText.TheVariants as of_void
use Rattle.module_grammar.specs.declared.places.Placed.{Placed}
use Rattle.named_modules.specs.Functions.{is_dropped_name}
use Rattle.named_modules.specs.Modules.{declarations_from, definition_item}
use Rattle.named_modules.proofs.Lists.{contains_cases, contains_either, contains_none}
use Rattle.module_spelling.specs.Around.{called_in_block, called_in_body, called_in_definition, called_in_instruction, called_in_line, called_of_void, debug_declared, debug_name}
use Rattle.module_spelling.specs.TokenLaws.{CalledNamesStand, DeclaredNamesStand}
use Rattle.module_spelling.proofs.Rows.{Stands, at_front, before_more, filled, further_on, in_each}

only_one : {A : Type 0} (x y : A) → Contains (x ∷ []) y → x ≡ y
only_one x y there = ⊎_elim (λ e. e) (λ none. absurd (contains_none y none)) (contains_cases x y [] there)

-- ---- names that are called

abbrev called_row : Placed Name → List Symbol
called_row x = void ∷ open_paren ∷ balanced ∷ close_paren ∷ Global x ∷ []

module _ (x : Placed Name) where
  of_void_call : (is_stated : Bool) (w : VoidCallText) → Contains (called_of_void is_stated w) x → Stands (called_row x) (void ∷ (lines.stated is_stated ++ lines.void_call w))
  of_void_call true (of_void.Call name end) there =
      subst (λ y. Stands (called_row x) (called_row y ++ lines.call_end end)) (sym (only_one name x there)) (at_front (called_row x) (lines.call_end end))
  of_void_call true (of_void.Debug name attributes) there = absurd (contains_none x there)
  of_void_call false w there = absurd (contains_none x there)

  of_body : (w : CallBodyText) → Contains (called_in_body w) x → Stands (called_row x) (lines.call_body w)
  of_body (call.Void v) there = of_void_call v.is_stated v.call there
  of_body w there = absurd (contains_none x there)

  of_instruction : (w : InstructionText) → Contains (called_in_instruction w) x → Stands (called_row x) (lines.instruction w)
  of_instruction (instruction.Call c) there =
      further_on (called_row x) (lines.tail c.tail) (symbol.call ∷ lines.call_body c.body)
      (further_on (called_row x) (symbol.call ∷ []) (lines.call_body c.body) (of_body c.body there))
  of_instruction w there = absurd (contains_none x there)

  of_line : (w : LineText) → Contains (called_in_line w) x → Stands (called_row x) (lines.line w)
  of_line w there =
      further_on (called_row x) (lines.register w.register) (lines.attached w.attached)
      (before_more (called_row x) (lines.instruction w.attached.instruction) (attachments w.attached.attachments) (of_instruction w.attached.instruction there))

  of_block : (w : BlockText) → Contains (called_in_block w) x → Stands (called_row x) (flow.block w)
  of_block w there =
      further_on (called_row x) (flow.label w.label) (flow.body w.body ++ flow.end w.end)
      (before_more (called_row x) (flow.body w.body) (flow.end w.end)
      (further_on (called_row x) (flat_map flow.phi_node w.body.phis) (flat_map lines.line w.body.lines)
      (in_each (called_row x) called_in_line lines.line x of_line w.body.lines there)))

  -- the blocks of a definition, before its last brace
  of_blocks : (w : DefinitionText) → Contains (called_in_definition w) x → Stands (called_row x) (flow.block w.entry ++ (flat_map flow.block w.others ++ (close_brace ∷ [])))
  of_blocks w there =
      subst (Stands (called_row x)) (append_assoc (flow.block w.entry) (flat_map flow.block w.others) (close_brace ∷ []))
      (before_more (called_row x) (flow.block w.entry ++ flat_map flow.block w.others) (close_brace ∷ [])
      (in_each (called_row x) called_in_block flow.block x of_block (w.entry ∷ w.others) there))

  of_definition : (w : DefinitionText) → Contains (called_in_definition w) x → Stands (called_row x) (functions.definition w)
  of_definition w there =
      let blocks : List Symbol = flow.block w.entry ++ (flat_map flow.block w.others ++ (close_brace ∷ [])) in
      let braced : Stands (called_row x) (Brace w.at ∷ blocks) = further_on (called_row x) (Brace w.at ∷ []) blocks (of_blocks w there) in
      let behind_head : Stands (called_row x) (attributes.attached w.attachment ++ (Brace w.at ∷ blocks)) = further_on (called_row x) (attributes.attached w.attachment) (Brace w.at ∷ blocks) braced in
      further_on (called_row x) (define ∷ []) (functions.linkage w.linkage ++ (functions.head w.head ++ (attributes.attached w.attachment ++ (Brace w.at ∷ blocks))))
      (further_on (called_row x) (functions.linkage w.linkage) (functions.head w.head ++ (attributes.attached w.attachment ++ (Brace w.at ∷ blocks)))
      (further_on (called_row x) (functions.head w.head) (attributes.attached w.attachment ++ (Brace w.at ∷ blocks)) behind_head))

  of_items : (ws : List ItemText) → Contains (flat_map called_in_definition (filter_map definition_item ws)) x → Stands (called_row x) (flat_map modules.item ws)
  of_items [] there = absurd (contains_none x there)
  of_items (item.Definition d ∷ ws) there =
      ⊎_elim
      (λ here. before_more (called_row x) (functions.definition d) (flat_map modules.item ws) (of_definition d here))
      (λ more. further_on (called_row x) (functions.definition d) (flat_map modules.item ws) (of_items ws more))
      (contains_either (called_in_definition d) (flat_map called_in_definition (filter_map definition_item ws)) x there)
  of_items (w ∷ ws) there = further_on (called_row x) (modules.item w) (flat_map modules.item ws) (of_items ws there)

pub called_names_stand : CalledNamesStand
called_names_stand tree symbols x written there =
    let f = filled (called_row x) (modules.written tree) symbols (of_items x tree.items there) written in
    at f.before f.inside f.behind f.same f.fills
  where
    at :
        (before row behind : List Symbol) → symbols ≡ before ++ (row ++ behind) → Fills is_balanced IsBalanced (called_row x) row
        → (before : List Symbol) × (inside : List Symbol) × (behind : List Symbol)
        × (symbols ≡ before ++ (void ∷ open_paren ∷ (inside ++ (close_paren ∷ Global x ∷ behind)))) × IsBalanced inside
    at before row behind same (behind_void, is_void, (behind_open, is_open, (inside, behind_gap, is_inside, fit, (behind_close, is_close, (end, is_name, is_end))))) =
        let tail : close_paren ∷ Global x ∷ [] ≡ behind_gap = ap (λ l. close_paren ∷ Global x ∷ l) (sym is_end) ∙ ap (λ l. close_paren ∷ l) is_name ∙ is_close in
        let whole : void ∷ open_paren ∷ (inside ++ (close_paren ∷ Global x ∷ [])) ≡ row =
        ap (λ l. void ∷ open_paren ∷ (inside ++ l)) tail ∙ ap (λ l. void ∷ open_paren ∷ l) is_inside ∙ ap (λ l. void ∷ l) is_open ∙ is_void in (
          before,
          inside,
          behind,
          same ∙ ap (λ l. before ++ (l ++ behind)) (sym whole) ∙ ap (λ l. before ++ (void ∷ open_paren ∷ l)) (append_assoc inside (close_paren ∷ Global x ∷ []) behind),
          fit,
        )

-- ---- names that are declared

abbrev declared_row : Placed Name → List Symbol
declared_row x = Debug x ∷ open_paren ∷ balanced ∷ close_paren ∷ unnamed_addr ∷ []

module _ (x : Placed Name) where
  kept : (b : Bool) → cond b false true ≡ false → b ≡ true
  kept true e = refl
  kept false e = cc

  of_name : (w : DeclaredNameText) → is_dropped_name w ≡ false → Contains (debug_name w) x → Stands (declared_row x) (functions.declared w)
  of_name (declared.Plain name params end) stays there = absurd (contains_none x there)
  of_name (declared.Debug name end) stays there =
      let rest : List Symbol = flat_map function_attribute end.attributes in
      subst (λ b. Stands (declared_row x) (Debug name ∷ open_paren ∷ balanced ∷ close_paren ∷ (addr b ++ rest))) (sym (kept end.unnamed_addr stays))
      (subst (λ y. Stands (declared_row x) (declared_row y ++ rest)) (sym (only_one name x there)) (at_front (declared_row x) rest))

  of_declaration : (w : DeclarationText) → is_dropped_name w.declared ≡ false → Contains (debug_name w.declared) x → Stands (declared_row x) (functions.declaration w)
  of_declaration w stays there =
      further_on (declared_row x) (declare ∷ []) (functions.result w.result ++ functions.declared w.declared)
      (further_on (declared_row x) (functions.result w.result) (functions.declared w.declared) (of_name w.declared stays there))

  of_one :
      (count : ℕ) (w : DeclarationText) (more : List (ℕ × DeclarationText)) (all : List Symbol) (b : Bool) → is_dropped_name w.declared ≡ b
      → Contains (flat_map debug_declared (cond b [] ((count, w) ∷ []) ++ more)) x → (Contains (flat_map debug_declared more) x → Stands (declared_row x) all)
      → Stands (declared_row x) (functions.declaration w ++ all)
  of_one count w more all true is there later = further_on (declared_row x) (functions.declaration w) all (later there)
  of_one count w more all false is there later =
      ⊎_elim
      (λ here. before_more (declared_row x) (functions.declaration w) all (of_declaration w is here))
      (λ behind. further_on (declared_row x) (functions.declaration w) all (later behind))
      (contains_either (debug_name w.declared) (flat_map debug_declared more) x there)

  of_declarations : (count : ℕ) (ws : List ItemText) → Contains (flat_map debug_declared (declarations_from count ws)) x → Stands (declared_row x) (flat_map modules.item ws)
  of_declarations count [] there = absurd (contains_none x there)
  of_declarations count (item.Declaration d ∷ ws) there =
      of_one count d (declarations_from count ws) (flat_map modules.item ws) (is_dropped_name d.declared) refl there (λ more. of_declarations count ws more)
  of_declarations count (item.Definition d ∷ ws) there =
      further_on (declared_row x) (functions.definition d) (flat_map modules.item ws) (of_declarations (count + 1) ws there)
  of_declarations count (w ∷ ws) there = further_on (declared_row x) (modules.item w) (flat_map modules.item ws) (of_declarations count ws there)

pub declared_names_stand : DeclaredNamesStand
declared_names_stand tree symbols x written there =
    let f = filled (declared_row x) (modules.written tree) symbols (of_declarations x 0 tree.items there) written in
    at f.before f.inside f.behind f.same f.fills
  where
    at :
        (before row behind : List Symbol) → symbols ≡ before ++ (row ++ behind) → Fills is_balanced IsBalanced (declared_row x) row
        → (before : List Symbol) × (inside : List Symbol) × (behind : List Symbol)
        × (symbols ≡ before ++ (Debug x ∷ open_paren ∷ (inside ++ (close_paren ∷ unnamed_addr ∷ behind)))) × IsBalanced inside
    at before row behind same (behind_name, is_name, (behind_open, is_open, (inside, behind_gap, is_inside, fit, (behind_close, is_close, (end, is_addr, is_end))))) =
        let tail : close_paren ∷ unnamed_addr ∷ [] ≡ behind_gap = ap (λ l. close_paren ∷ unnamed_addr ∷ l) (sym is_end) ∙ ap (λ l. close_paren ∷ l) is_addr ∙ is_close in
        let whole : Debug x ∷ open_paren ∷ (inside ++ (close_paren ∷ unnamed_addr ∷ [])) ≡ row =
        ap (λ l. Debug x ∷ open_paren ∷ (inside ++ l)) tail ∙ ap (λ l. Debug x ∷ open_paren ∷ l) is_inside ∙ ap (λ l. Debug x ∷ l) is_open ∙ is_name in (
          before,
          inside,
          behind,
          same ∙ ap (λ l. before ++ (l ++ behind)) (sym whole) ∙ ap (λ l. before ++ (Debug x ∷ open_paren ∷ l)) (append_assoc inside (close_paren ∷ unnamed_addr ∷ []) behind),
          fit,
        )
