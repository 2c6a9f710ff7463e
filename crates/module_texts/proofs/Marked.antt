-- The numbers that are due in a tree are due at names of its symbols, one behind the other.
use Rattle.std.proofs.Common.{◌≡◌, ℕ, Bool, true, false, cond, List, [], ◌∷◌, ◌++◌, map, Option, Some, None, ◌⊎◌, inl, inr, refl, ap, sym, ◌∙◌, subst, append_assoc}
use Rattle.std.specs.Prelude.{not}
use Rattle.std.specs.List.{AllByRecursion, Contains, cons_option, filter, filter_map, flat_map}
use Rattle.std.proofs.lemmas.List.Elements.{Contains-append_left, Contains-append_right}
use Rattle.ir_types.specs.declared.names.Name.{Name}
use Rattle.module_grammar.specs.Attributes as attributes
use Rattle.module_grammar.specs.Constants as constants
use Rattle.module_grammar.specs.Flow as flow
use Rattle.module_grammar.specs.Functions as functions
use Rattle.module_grammar.specs.Lines as lines
use Rattle.module_grammar.specs.Listed.{further}
use Rattle.module_grammar.specs.Modules as modules
use Rattle.module_grammar.specs.Symbols.{Symbol}
use Rattle.module_grammar.specs.Symbols as symbols
use Rattle.module_grammar.specs.Types.{ty}
use Rattle.module_grammar.specs.declared.constants.GlobalNameText.{GlobalNameText}
use Rattle.module_grammar.specs.declared.constants.GlobalNameText.TheVariants as global
use Rattle.module_grammar.specs.declared.flow.BlockText.{BlockText}
use Rattle.module_grammar.specs.declared.flow.PhiText.{PhiText}
use Rattle.module_grammar.specs.declared.functions.DeclarationText.{DeclarationText}
use Rattle.module_grammar.specs.declared.functions.DeclaredNameText.{DeclaredNameText}
use Rattle.module_grammar.specs.declared.functions.DeclaredNameText.TheVariants as declared
use Rattle.module_grammar.specs.declared.functions.DefinitionText.{DefinitionText}
use Rattle.module_grammar.specs.declared.functions.ParamText.{ParamText}
use Rattle.module_grammar.specs.declared.items.ItemText.{ItemText}
use Rattle.module_grammar.specs.declared.items.ItemText.TheVariants as item
use Rattle.module_grammar.specs.declared.lines.LineText.{LineText}
use Rattle.module_grammar.specs.declared.places.Placed.{Placed}
use Rattle.named_modules.proofs.Lists.{contains_behind, contains_here}
use Rattle.named_modules.specs.Built.{due_after, label_name}
use Rattle.named_modules.specs.Constants.{global_name}
use Rattle.named_modules.specs.Faults.{Written, block_written, defined, due_behind_written, function_written, global_written, is_global, line_written, type_name}
use Rattle.named_modules.specs.Functions.{is_dropped_name, name_declared}
use Rattle.module_texts.proofs.Standing.{AreDue, AreMarked, AreMarkedIn, IsMarked, IsMarkedIn}

-- ---- numbers that are due, at their places

pub record Mark : Type 0 where
  pub start : ℕ
  pub due : ℕ

abbrev pub mark_at : ℕ → ℕ → Mark
mark_at start due = record { start = start; due = due }

abbrev mark : ℕ → Option (Placed Name) → List Mark
mark due None = []
mark due (Some x) = mark_at x.start due ∷ []

abbrev marks : ℕ → List Written → List Mark
marks due [] = []
marks due (w ∷ ws) = mark due w.name ++ marks (due_behind_written due w) ws

abbrev due_behind_all : ℕ → List Written → ℕ
due_behind_all due [] = due
due_behind_all due (w ∷ ws) = due_behind_all (due_behind_written due w) ws

abbrev due_behind_name : ℕ → Option (Placed Name) → ℕ
due_behind_name due None = due
due_behind_name due (Some x) = due_after due x.what

abbrev due_behind_names : ℕ → List (Placed Name) → ℕ
due_behind_names due [] = due
due_behind_names due (x ∷ xs) = due_behind_names (due_after due x.what) xs

-- as globals, functions and named types are counted, and in each function what it defines
abbrev marks_in : ℕ → ℕ → ℕ → List ItemText → List Mark
marks_in globals others types [] = []
marks_in globals others types (item.Type x b ∷ is) = mark_at x.start types ∷ marks_in globals others (due_after types x.what) is
marks_in globals others types (item.Global g b ∷ is) = mark_at (global_name g).start globals ∷ marks_in (due_after globals (global_name g).what) others types is
marks_in globals others types (item.Declaration d ∷ is) =
    mark others (global_written (item.Declaration d)) ++ marks_in globals (due_behind_name others (global_written (item.Declaration d))) types is
marks_in globals others types (item.Definition d ∷ is) =
    mark_at (global_name d.head.name).start others ∷ (marks 0 (function_written d) ++ marks_in globals (due_after others (global_name d.head.name).what) types is)
marks_in globals others types (i ∷ is) = marks_in globals others types is

marks_append : (due : ℕ) (ws vs : List Written) → marks due (ws ++ vs) ≡ marks due ws ++ marks (due_behind_all due ws) vs
marks_append due [] vs = refl
marks_append due (w ∷ ws) vs =
    let next = due_behind_written due w in
    ap (λ l. mark due w.name ++ l) (marks_append next ws vs) ∙ sym (append_assoc (mark due w.name) (marks next ws) (marks (due_behind_all next ws) vs))

-- ---- among symbols

-- a name that begins there
abbrev pub IsNameAt : Symbol → ℕ → Type 0
IsNameAt (symbols.Local x) p = x.start ≡ p
IsNameAt (symbols.Global x) p = x.start ≡ p
IsNameAt (symbols.Debug x) p = x.start ≡ p
IsNameAt (symbols.Label x) p = x.start ≡ p
IsNameAt s p = ⊥

-- each at one of the symbols, in their order
abbrev pub Among : List Mark → List Symbol → Type 0
Among [] ss = Unit {0}
Among (m ∷ ms) [] = ⊥
Among (m ∷ ms) (s ∷ ss) = (IsNameAt s m.start × Among ms ss) ⊎ Among (m ∷ ms) ss

pub behind_others : (ms : List Mark) (front ss : List Symbol) → Among ms ss → Among ms (front ++ ss)
behind_others ms [] ss among = among
behind_others [] (s ∷ front) ss among = tt
behind_others (m ∷ ms) (s ∷ front) ss among = inr (behind_others (m ∷ ms) front ss among)

before_others : (ms : List Mark) (ss more : List Symbol) → Among ms ss → Among ms (ss ++ more)
before_others [] ss more among = tt
before_others (m ∷ ms) [] more among = absurd among
before_others (m ∷ ms) (s ∷ ss) more (inl here) = inl (here.0, before_others ms ss more here.1)
before_others (m ∷ ms) (s ∷ ss) more (inr later) = inr (before_others (m ∷ ms) ss more later)

both_among : (ms ns : List Mark) (ss ts : List Symbol) → Among ms ss → Among ns ts → Among (ms ++ ns) (ss ++ ts)
both_among [] ns ss ts first second = behind_others ns ss ts second
both_among (m ∷ ms) ns [] ts first second = absurd first
both_among (m ∷ ms) ns (s ∷ ss) ts (inl here) second = inl (here.0, both_among ms ns ss ts here.1 second)
both_among (m ∷ ms) ns (s ∷ ss) ts (inr later) second = inr (both_among (m ∷ ms) ns ss ts later second)

-- of what is written one behind the other
joined : (due : ℕ) (ws vs : List Written) (first second : List Symbol) → Among (marks due ws) first → Among (marks (due_behind_all due ws) vs) second → Among (marks due (ws ++ vs)) (first ++ second)
joined due ws vs first second here later =
    subst (λ ms. Among ms (first ++ second)) (sym (marks_append due ws vs)) (both_among (marks due ws) (marks (due_behind_all due ws) vs) first second here later)

module _ {X : Type 0} (says : X → Written) (write : X → List Symbol) (each : (due : ℕ) (x : X) → Among (mark due (says x).name) (write x)) where
  in_each : (due : ℕ) (xs : List X) → Among (marks due (map says xs)) (flat_map write xs)
  in_each due [] = tt
  in_each due (x ∷ xs) =
      let next = due_behind_written due (says x) in
      both_among (mark due (says x).name) (marks next (map says xs)) (write x) (flat_map write xs) (each due x) (in_each next xs)

  in_further : (due : ℕ) (xs : List X) → Among (marks due (map says xs)) (further (map write xs))
  in_further due [] = tt
  in_further due (x ∷ xs) =
      let next = due_behind_written due (says x) in
      both_among (mark due (says x).name) (marks next (map says xs)) (symbols.comma ∷ write x) (further (map write xs))
      (behind_others (mark due (says x).name) (symbols.comma ∷ []) (write x) (each due x)) (in_further next xs)

of_local : (due : ℕ) (x : Option (Placed Name)) → Among (mark due x) (functions.local x)
of_local due None = tt
of_local due (Some x) = inl (refl, tt)

of_register : (due : ℕ) (x : Option (Placed Name)) → Among (mark due x) (lines.register x)
of_register due None = tt
of_register due (Some x) = inl (refl, tt)

of_label : (due : ℕ) (x : Option (Placed Name)) → Among (mark due (label_name x)) (flow.label x)
of_label due None = tt
of_label due (Some x) = inl (refl, tt)

-- ---- functions

abbrev param_written : ParamText → Written
param_written p = defined p.name

abbrev phi_written : PhiText → Written
phi_written p = defined p.register

of_param : (due : ℕ) (p : ParamText) → Among (mark due p.name) (functions.param p)
of_param due p =
    let m = mark due p.name in
    let some = flat_map attributes.param_attribute p.attributes in
    behind_others m (ty p.ty) (some ++ functions.local p.name) (behind_others m some (functions.local p.name) (of_local due p.name))

of_params : (due : ℕ) (ps : List ParamText) → Among (marks due (map param_written ps)) (functions.params ps)
of_params due [] = tt
of_params due (p ∷ ps) =
    let next = due_behind_written due (param_written p) in
    both_among (mark due p.name) (marks next (map param_written ps)) (functions.param p) (further (map functions.param ps)) (of_param due p) (in_further param_written functions.param of_param next ps)

of_phi : (due : ℕ) (p : PhiText) → Among (mark due p.register) (flow.phi_node p)
of_phi due p = before_others (mark due p.register) (lines.register p.register) (flow.node p.node) (of_register due p.register)

of_line : (due : ℕ) (w : LineText) → Among (mark due w.register) (lines.line w)
of_line due w = before_others (mark due w.register) (lines.register w.register) (lines.attached w.attached) (of_register due w.register)

of_block : (due : ℕ) (w : BlockText) → Among (marks due (block_written w)) (flow.block w)
of_block due w =
    let label = label_name w.label in
    let next = due_behind_written due (defined label) in
    let phis = map phi_written w.body.phis in
    let all_lines = map line_written w.body.lines in
    both_among (mark due label) (marks next (phis ++ all_lines)) (flow.label w.label) (flow.body w.body ++ flow.end w.end) (of_label due w.label)
    (before_others (marks next (phis ++ all_lines)) (flow.body w.body) (flow.end w.end)
    (joined next phis all_lines (flat_map flow.phi_node w.body.phis) (flat_map lines.line w.body.lines) (in_each phi_written flow.phi_node of_phi next w.body.phis) (in_each line_written lines.line of_line (due_behind_all next phis) w.body.lines)))

of_blocks : (due : ℕ) (ws : List BlockText) → Among (marks due (flat_map block_written ws)) (flat_map flow.block ws)
of_blocks due [] = tt
of_blocks due (w ∷ ws) =
    let here = block_written w in
    joined due here (flat_map block_written ws) (flow.block w) (flat_map flow.block ws) (of_block due w) (of_blocks (due_behind_all due here) ws)

of_global_name : (due : ℕ) (g : GlobalNameText) (ms : List Mark) (ss : List Symbol) → Among ms ss → Among (mark_at (global_name g).start due ∷ ms) (constants.global_name g ∷ ss)
of_global_name due (global.Plain x) ms ss among = inl (refl, among)
of_global_name due (global.Debug x) ms ss among = inl (refl, among)

of_definition : (due : ℕ) (d : DefinitionText) → Among (mark_at (global_name d.head.name).start due ∷ marks 0 (function_written d)) (functions.definition d)
of_definition due d =
    let params = map param_written d.head.params in
    let next = due_behind_all 0 params in
    let entry = block_written d.entry in
    let others = flat_map block_written d.others in
    let behind = flat_map flow.block d.others ++ (symbols.close_brace ∷ []) in
    let blocks = flow.block d.entry ++ behind in
    let attached = attributes.attached d.attachment ++ (symbols.Brace d.at ∷ blocks) in
    let closed = symbols.close_paren ∷ functions.head_end d.head.end in
    let bodies : Among (marks next (entry ++ others)) blocks =
    joined next entry others (flow.block d.entry) behind (of_block next d.entry)
    (before_others (marks (due_behind_all next entry) others) (flat_map flow.block d.others) (symbols.close_brace ∷ []) (of_blocks (due_behind_all next entry) d.others)) in
    let head_behind = constants.global_name d.head.name ∷ symbols.open_paren ∷ (functions.params d.head.params ++ closed) in
    let name = mark_at (global_name d.head.name).start due in
    let head : Among (name ∷ marks 0 params) (functions.head d.head) =
    behind_others (name ∷ marks 0 params) (functions.result d.head.result) head_behind
    (of_global_name due d.head.name (marks 0 params) (symbols.open_paren ∷ (functions.params d.head.params ++ closed))
    (behind_others (marks 0 params) (symbols.open_paren ∷ []) (functions.params d.head.params ++ closed) (before_others (marks 0 params) (functions.params d.head.params) closed (of_params 0 d.head.params)))) in
    let inner : Among (marks next (entry ++ others)) attached =
    behind_others (marks next (entry ++ others)) (attributes.attached d.attachment) (symbols.Brace d.at ∷ blocks)
    (behind_others (marks next (entry ++ others)) (symbols.Brace d.at ∷ []) blocks bodies) in
    let whole : Among (name ∷ marks 0 (function_written d)) (functions.head d.head ++ attached) =
    subst (λ ms. Among (name ∷ ms) (functions.head d.head ++ attached)) (sym (marks_append 0 params (entry ++ others)))
    (both_among (name ∷ marks 0 params) (marks next (entry ++ others)) (functions.head d.head) attached head inner) in
    behind_others (name ∷ marks 0 (function_written d)) (symbols.define ∷ functions.linkage d.linkage) (functions.head d.head ++ attached) whole

-- ---- items

of_declared_name : (due : ℕ) (w : DeclaredNameText) → Among (mark_at (name_declared w).start due ∷ []) (functions.declared w)
of_declared_name due (declared.Plain x params end) = inl (refl, tt)
of_declared_name due (declared.Debug x end) = inl (refl, tt)

of_declaration : (due : ℕ) (d : DeclarationText) (dropped : Bool) → Among (mark due (cond dropped None (Some (name_declared d.declared)))) (functions.declaration d)
of_declaration due d true = tt
of_declaration due d false =
    behind_others (mark_at (name_declared d.declared).start due ∷ []) (symbols.declare ∷ functions.result d.result) (functions.declared d.declared) (of_declared_name due d.declared)

pub of_items : (globals others types : ℕ) (items : List ItemText) → Among (marks_in globals others types items) (flat_map modules.item items)
of_items globals others types [] = tt
of_items globals others types (item.Type x b ∷ is) =
    let next = due_after types x.what in
    inl (refl, behind_others (marks_in globals others next is) (symbols.equals ∷ symbols.type ∷ modules.type_body b) (flat_map modules.item is) (of_items globals others next is))
of_items globals others types (item.Global g b ∷ is) =
    let next = due_after globals (global_name g).what in
    let more = flat_map modules.item is in
    of_global_name globals g (marks_in next others types is) (symbols.equals ∷ (modules.global_body b ++ more)) (behind_others (marks_in next others types is) (symbols.equals ∷ modules.global_body b) more (of_items next others types is))
of_items globals others types (item.Declaration d ∷ is) =
    let name = global_written (item.Declaration d) in
    let next = due_behind_name others name in
    both_among (mark others name) (marks_in globals next types is) (functions.declaration d) (flat_map modules.item is) (of_declaration others d (is_dropped_name d.declared)) (of_items globals next types is)
of_items globals others types (item.Definition d ∷ is) =
    let next = due_after others (global_name d.head.name).what in
    both_among (mark_at (global_name d.head.name).start others ∷ marks 0 (function_written d)) (marks_in globals next types is) (functions.definition d) (flat_map modules.item is) (of_definition others d) (of_items globals next types is)
of_items globals others types (item.Target ∷ is) =
    behind_others (marks_in globals others types is) (modules.item item.Target) (flat_map modules.item is) (of_items globals others types is)
of_items globals others types (item.Attributes start ∷ is) =
    behind_others (marks_in globals others types is) (modules.item (item.Attributes start)) (flat_map modules.item is) (of_items globals others types is)
of_items globals others types (item.Metadata is_distinct m ∷ is) =
    behind_others (marks_in globals others types is) (modules.item (item.Metadata is_distinct m)) (flat_map modules.item is) (of_items globals others types is)

-- ---- each is due where it is marked

abbrev pub IsDueAt : List Mark → ℕ → ℕ → Type 0
IsDueAt all start due = Contains all (mark_at start due)

module _ (all : List Mark) where
  abbrev Holds : List Mark → Type 0
  Holds ms = (m : Mark) → Contains ms m → Contains all m

  one_marked : (due : ℕ) (x : Option (Placed Name)) → Holds (mark due x) → IsMarked (IsDueAt all) due x
  one_marked due None each = tt
  one_marked due (Some x) each = each (mark_at x.start due) (contains_here (mark_at x.start due) [])

  written_marked : (due : ℕ) (ws : List Written) → Holds (marks due ws) → AreMarked (IsDueAt all) due ws
  written_marked due [] each = tt
  written_marked due (w ∷ ws) each =
      let here = mark due w.name in
      let next = due_behind_written due w in (
        one_marked due w.name (λ m there. each m (Contains-append_left here (marks next ws) m there)),
        written_marked next ws (λ m there. each m (Contains-append_right here (marks next ws) m there)),
      )

  record AllMarked (globals_due others_due types_due : ℕ) (written : List ItemText) : Type 0 where
    pub items : AllByRecursion (IsMarkedIn (IsDueAt all)) written
    pub globals : AreDue (IsDueAt all) globals_due (filter_map global_written (filter is_global written))
    pub others : AreDue (IsDueAt all) others_due (filter_map global_written (filter (λ i. not (is_global i)) written))
    pub types : AreDue (IsDueAt all) types_due (filter_map type_name written)

  front : (a : Mark) (ms : List Mark) → Holds (a ∷ ms) → Contains all a
  front a ms each = each a (contains_here a ms)

  behind : (a : Mark) (ms : List Mark) → Holds (a ∷ ms) → Holds ms
  behind a ms each m there = each m (contains_behind a m ms there)

  one_due : (due : ℕ) (x : Option (Placed Name)) (xs : List (Placed Name)) → IsMarked (IsDueAt all) due x → AreDue (IsDueAt all) (due_behind_name due x) xs → AreDue (IsDueAt all) due (cons_option x xs)
  one_due due None xs marked dues = dues
  one_due due (Some x) xs marked dues = (marked, dues)

  all_marked : (globals others types : ℕ) (items : List ItemText) → Holds (marks_in globals others types items) → AllMarked globals others types items
  all_marked globals others types [] each = record { items = tt; globals = tt; others = tt; types = tt }
  all_marked globals others types (item.Type x b ∷ is) each =
      let a = mark_at x.start types in
      let next = due_after types x.what in
      let ms = marks_in globals others next is in
      let r = all_marked globals others next is (behind a ms each) in
      record { items = (tt, r.items); globals = r.globals; others = r.others; types = (front a ms each, r.types) }
  all_marked globals others types (item.Global g b ∷ is) each =
      let a = mark_at (global_name g).start globals in
      let next = due_after globals (global_name g).what in
      let ms = marks_in next others types is in
      let r = all_marked next others types is (behind a ms each) in
      record { items = (tt, r.items); globals = (front a ms each, r.globals); others = r.others; types = r.types }
  all_marked globals others types (item.Declaration d ∷ is) each =
      let x = global_written (item.Declaration d) in
      let next = due_behind_name others x in
      let ms = marks_in globals next types is in
      let here = mark others x in
      let r = all_marked globals next types is (λ m there. each m (Contains-append_right here ms m there)) in
      let xs = filter_map global_written (filter (λ i. not (is_global i)) is) in
      record {
        items = (tt, r.items);
        globals = r.globals;
        others = one_due others x xs (one_marked others x (λ m there. each m (Contains-append_left here ms m there))) r.others;
        types = r.types;
      }
  all_marked globals others types (item.Definition d ∷ is) each =
      let a = mark_at (global_name d.head.name).start others in
      let next = due_after others (global_name d.head.name).what in
      let inner = marks 0 (function_written d) in
      let ms = marks_in globals next types is in
      let rest = behind a (inner ++ ms) each in
      let r = all_marked globals next types is (λ m there. rest m (Contains-append_right inner ms m there)) in
      record {
        items = (written_marked 0 (function_written d) (λ m there. rest m (Contains-append_left inner ms m there)), r.items);
        globals = r.globals;
        others = (front a (inner ++ ms) each, r.others);
        types = r.types;
      }
  all_marked globals others types (item.Target ∷ is) each =
      let r = all_marked globals others types is each in
      record { items = (tt, r.items); globals = r.globals; others = r.others; types = r.types }
  all_marked globals others types (item.Attributes start ∷ is) each =
      let r = all_marked globals others types is each in
      record { items = (tt, r.items); globals = r.globals; others = r.others; types = r.types }
  all_marked globals others types (item.Metadata is_distinct m ∷ is) each =
      let r = all_marked globals others types is each in
      record { items = (tt, r.items); globals = r.globals; others = r.others; types = r.types }

  dues_joined : (due : ℕ) (xs ys : List (Placed Name)) → AreDue (IsDueAt all) due xs → AreDue (IsDueAt all) (due_behind_names due xs) ys → AreDue (IsDueAt all) due (xs ++ ys)
  dues_joined due [] ys first second = second
  dues_joined due (x ∷ xs) ys first second = (first.0, dues_joined (due_after due x.what) xs ys first.1 second)

-- globals are counted from 0, functions behind them
abbrev globals_of : List ItemText → List (Placed Name)
globals_of items = filter_map global_written (filter is_global items)

abbrev pub marks_of : List ItemText → List Mark
marks_of items = marks_in 0 (due_behind_names 0 (globals_of items)) 0 items

pub are_marked : (items : List ItemText) → AreMarkedIn (IsDueAt (marks_of items)) items
are_marked items =
    let all = marks_of items in
    let others = due_behind_names 0 (globals_of items) in
    let r = all_marked all 0 others 0 items (λ m there. there) in
    record {
      items = r.items;
      globals = dues_joined all 0 (globals_of items) (filter_map global_written (filter (λ i. not (is_global i)) items)) r.globals r.others;
      types = r.types;
    }

pub marks_among : (items : List ItemText) → Among (marks_of items) (flat_map modules.item items)
marks_among items = of_items 0 (due_behind_names 0 (globals_of items)) 0 items
