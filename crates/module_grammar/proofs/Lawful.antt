-- What each rule makes is written as its right side is.
use Rattle.std.proofs.Common.{◌≡◌, ◌∙◌, ℕ, List, [], ◌∷◌, ◌++◌, map, length, nat_lt, true, refl, ap, append_assoc}
use Rattle.std.specs.List.{flat_map}
use Rattle.module_grammar.specs.declared.commas.NextAlignText.{NextAlignText}
use Rattle.module_grammar.specs.declared.commas.NextAlignText.TheVariants as next_align
use Rattle.module_grammar.specs.declared.commas.NextCountText.TheVariants as next_count
use Rattle.module_grammar.specs.declared.commas.NextEntryText.TheVariants as next_entry
use Rattle.module_grammar.specs.declared.commas.NextIndexText.TheVariants as next_index
use Rattle.module_grammar.specs.declared.flow.BehindText.TheVariants as behind_text
use Rattle.module_grammar.specs.declared.functions.NextDeclaredText.TheVariants as next_declared
use Rattle.module_grammar.specs.declared.types.NextCalledText.TheVariants as next_called
use Rattle.module_grammar.specs.Attributes as attributes
use Rattle.module_grammar.specs.BlockRules as block_rules
use Rattle.module_grammar.specs.Constants as constants
use Rattle.module_grammar.specs.ConstantRules as constant_rules
use Rattle.module_grammar.specs.Flow as flow
use Rattle.module_grammar.specs.FunctionRules as function_rules
use Rattle.module_grammar.specs.Joined.{align_from}
use Rattle.module_grammar.specs.LineRules as line_rules
use Rattle.module_grammar.specs.Lines as lines
use Rattle.module_grammar.specs.Listed.{further}
use Rattle.module_grammar.specs.Rules.{first_rule, meaning, rules, written_at}
use Rattle.module_grammar.specs.Sorts.{vocabulary}
use Rattle.module_grammar.specs.Symbols.{Symbol, comma}
use Rattle.module_grammar.specs.Symbols as symbol
use Rattle.module_grammar.specs.TypeRules as type_rules
use Rattle.module_grammar.specs.Types.{ty}
use Rattle.module_grammar.proofs.ConstFolds as of_const
use Rattle.module_grammar.proofs.InitFolds as of_init
use Rattle.module_grammar.proofs.TypeFolds as of_type
use Rattle.module_grammar.proofs.Vocabulary.{is_vocabulary}
use Rattle.predictive.proofs.Loads.{lawful_rules, tree}
use Rattle.predictive.specs.Made.{Made, MadeEach}
use Rattle.predictive.specs.Meaning.{Each, IsLawful}
use Rattle.predictive.specs.Typed.{AllOf, IsRight, Rule, made, nth}

abbrev IsWrittenAsRight : Rule vocabulary → Type 0
IsWrittenAsRight r = IsRight vocabulary written_at r first_rule rules

-- ---- texts one behind the other

behind_two : {X : Type 0} → (a b c d : List X) → (a ++ (b ++ c)) ++ d ≡ a ++ (b ++ (c ++ d))
behind_two a b c d = append_assoc a (b ++ c) d ∙ ap (λ l. a ++ l) (append_assoc b c d)

behind_comma : (a b c d : List Symbol) → (a ++ (comma ∷ (b ++ c))) ++ d ≡ a ++ (comma ∷ (b ++ (c ++ d)))
behind_comma a b c d = append_assoc a (comma ∷ (b ++ c)) d ∙ ap (λ l. a ++ (comma ∷ l)) (append_assoc b c d)

-- ---- functions and types

declared_params : IsWrittenAsRight function_rules.declared_params
declared_params (next_declared.Open, tt) = refl
declared_params (next_declared.Param p more, tt) = refl

more_declared : IsWrittenAsRight function_rules.more_declared
more_declared (_, (next_declared.Open, tt)) = refl
more_declared (_, (next_declared.Param p more, tt)) = refl

called : IsWrittenAsRight type_rules.called
called (next_called.Open, tt) = refl
called (next_called.Type t more, tt) = refl

more_called : IsWrittenAsRight type_rules.more_called
more_called (_, (next_called.Open, tt)) = refl
more_called (_, (next_called.Type t more, tt)) = refl

pointers : IsWrittenAsRight type_rules.pointers
pointers (t, (stars, tt)) = of_type.stars_behind t stars

int_type : IsWrittenAsRight type_rules.int_type
int_type (width, tt) = of_type.at_int width

named_base : IsWrittenAsRight type_rules.named_base
named_base (name, tt) = of_type.at_named name

array_type : IsWrittenAsRight type_rules.array_type
array_type (at, (count, (_, (element, _)))) = of_type.at_array at count element

struct_type : IsWrittenAsRight type_rules.struct_type
struct_type (at, (fields, _)) = of_type.at_struct at fields

-- ---- constants

int_const : IsWrittenAsRight constant_rules.int_const
int_const (i, tt) = of_const.at_int i

null_const : IsWrittenAsRight constant_rules.null_const
null_const (at, tt) = of_const.at_null at

undef_const : IsWrittenAsRight constant_rules.undef_const
undef_const _ = of_const.at_undef

global_const : IsWrittenAsRight constant_rules.global_const
global_const (name, tt) = of_const.at_global name

element_const : IsWrittenAsRight constant_rules.element_const
element_const (at, (is_inbounds, (_, (of, (_, (base_ty, (base, (indices, _)))))))) = of_const.at_element at is_inbounds of base_ty base indices

cast_const : IsWrittenAsRight constant_rules.cast_const
cast_const (at, (_, (from, (c, (_, (target, _)))))) = of_const.at_cast at from c target

-- a constant behind its type, before others
more_consts : IsWrittenAsRight constant_rules.more_consts
more_consts (_, (t, (c, (more, tt)))) =
    ap (λ l. comma ∷ l) (append_assoc (ty t) (constants.const c) (further (map constants.typed_const more)))

const_init : IsWrittenAsRight constant_rules.const_init
const_init (c, tt) = of_init.at_const c

zero_init : IsWrittenAsRight constant_rules.zero_init
zero_init _ = of_init.at_zero

bytes_init : IsWrittenAsRight constant_rules.bytes_init
bytes_init (_, (bytes, tt)) = of_init.at_bytes bytes

array_init : IsWrittenAsRight constant_rules.array_init
array_init (at, (parts, _)) = of_init.at_array at parts

struct_init : IsWrittenAsRight constant_rules.struct_init
struct_init (at, (parts, _)) = of_init.at_struct at parts

inits : IsWrittenAsRight constant_rules.inits
inits (t, (i, (more, tt))) = append_assoc (ty t) (constants.init i) (further (map constants.typed_init more))

more_inits : IsWrittenAsRight constant_rules.more_inits
more_inits (_, (t, (i, (more, tt)))) =
    ap (λ l. comma ∷ l) (append_assoc (ty t) (constants.init i) (further (map constants.typed_init more)))

-- ---- lines

element : IsWrittenAsRight line_rules.element
element (at, (is_inbounds, (of, (_, (base, (b, tt)))))) =
    ap (λ l. symbol.Element at ∷ l)
    (append_assoc (constants.inbounds is_inbounds) (ty of ++ (comma ∷ (constants.operand base ++ further (map constants.operand b.indices)))) (attributes.attachments b.attachments)
    ∙ ap (λ l. constants.inbounds is_inbounds ++ l)
    (behind_comma (ty of) (constants.operand base) (further (map constants.operand b.indices)) (attributes.attachments b.attachments)))

alloca : IsWrittenAsRight line_rules.alloca
alloca (_, (t, (b, tt))) =
    ap (λ l. symbol.alloca ∷ l) (behind_two (ty t) (lines.count b.count) (lines.align b.behind.align) (attributes.attachments b.behind.attachments))

load : IsWrittenAsRight line_rules.load
load (_, (t, (_, (address, (b, tt))))) =
    ap (λ l. symbol.load ∷ l) (behind_comma (ty t) (constants.operand address) (lines.align b.align) (attributes.attachments b.attachments))

store : IsWrittenAsRight line_rules.store
store (_, (v, (_, (address, (b, tt))))) =
    ap (λ l. symbol.store ∷ l)
    (behind_comma (constants.operand v) (constants.operand address) (lines.align b.align) (attributes.attachments b.attachments))

aligned : (x : NextAlignText) → lines.align_behind (align_from x) ≡ comma ∷ lines.next_align x
aligned (next_align.Align n more) = refl
aligned (next_align.Attachment first others) = refl

align_behind : IsWrittenAsRight line_rules.align_behind
align_behind (_, (x, tt)) = aligned x

count_behind : IsWrittenAsRight line_rules.count_behind
count_behind (_, (next_count.Count c b, tt)) =
    ap (λ l. comma ∷ l) (append_assoc (ty c.ty) (constants.int c.number ∷ []) (lines.align_behind b))
count_behind (_, (next_count.Other x, tt)) = aligned x

indices_behind : IsWrittenAsRight line_rules.indices_behind
indices_behind (_, (next_index.Index o more, tt)) =
    ap (λ l. comma ∷ l) (append_assoc (constants.operand o) (further (map constants.operand more.indices)) (attributes.attachments more.attachments))
indices_behind (_, (next_index.Attachment first others, tt)) = refl

-- ---- blocks

entries_behind : IsWrittenAsRight block_rules.entries_behind
entries_behind (_, (next_entry.Entry e more, tt)) =
    ap (λ l. comma ∷ l) (append_assoc (flow.entry e) (further (map flow.entry more.entries)) (attributes.attachments more.attachments))
entries_behind (_, (next_entry.Attachment first others, tt)) = refl

-- what is written of phi nodes with the first one, and then of lines
after_node : (r n ps ls : List Symbol) → ((r ++ n) ++ ps) ++ ls ≡ r ++ (n ++ (ps ++ ls))
after_node r n ps ls = append_assoc (r ++ n) ps ls ∙ append_assoc r n (ps ++ ls)

-- a register before what follows it
body : IsWrittenAsRight block_rules.body
body (r, (behind_text.Phi n b, tt)) =
    after_node (lines.register r) (flow.node n) (flat_map flow.phi_node b.phis) (flat_map lines.line b.lines)
body (r, (behind_text.Line a ls, tt)) = append_assoc (lines.register r) (lines.attached a) (flat_map lines.line ls)

-- ---- all rules

right : AllOf IsWrittenAsRight rules
right = ((λ v. refl), ((λ v. refl), ((λ v. refl), ((λ v. refl), ((λ v. refl), ((λ v. refl), ((λ v. refl), ((λ v. refl), ((λ v. refl), ((λ v. refl), ((λ v. refl), ((λ v. refl), ((λ v. refl), ((λ v. refl), ((λ v. refl), ((λ v. refl), ((λ v. refl), ((λ v. refl), ((λ v. refl), ((λ v. refl), (declared_params, ((λ v. refl), (more_declared, ((λ v. refl), ((λ v. refl), ((λ v. refl), ((λ v. refl), ((λ v. refl), ((λ v. refl), ((λ v. refl), ((λ v. refl), ((λ v. refl), ((λ v. refl), ((λ v. refl), ((λ v. refl), ((λ v. refl), ((λ v. refl), ((λ v. refl), ((λ v. refl), ((λ v. refl), ((λ v. refl), ((λ v. refl), ((λ v. refl), ((λ v. refl), ((λ v. refl), ((λ v. refl), ((λ v. refl), ((λ v. refl), ((λ v. refl), ((λ v. refl), ((λ v. refl), ((λ v. refl), ((λ v. refl), ((λ v. refl), ((λ v. refl), ((λ v. refl), ((λ v. refl), ((λ v. refl), ((λ v. refl), ((λ v. refl), ((λ v. refl), ((λ v. refl), ((λ v. refl), ((λ v. refl), ((λ v. refl), ((λ v. refl), ((λ v. refl), ((λ v. refl), ((λ v. refl), ((λ v. refl), ((λ v. refl), ((λ v. refl), ((λ v. refl), ((λ v. refl), (pointers, (int_type, (named_base, (array_type, (struct_type, ((λ v. refl), ((λ v. refl), ((λ v. refl), ((λ v. refl), ((λ v. refl), ((λ v. refl), ((λ v. refl), (called, ((λ v. refl), (more_called, ((λ v. refl), ((λ v. refl), ((λ v. refl), ((λ v. refl), ((λ v. refl), ((λ v. refl), ((λ v. refl), ((λ v. refl), ((λ v. refl), ((λ v. refl), (int_const, (null_const, (undef_const, (global_const, (element_const, (cast_const, ((λ v. refl), (more_consts, (const_init, (zero_init, (bytes_init, (array_init, (struct_init, ((λ v. refl), (inits, ((λ v. refl), (more_inits, ((λ v. refl), ((λ v. refl), ((λ v. refl), ((λ v. refl), ((λ v. refl), ((λ v. refl), ((λ v. refl), ((λ v. refl), ((λ v. refl), ((λ v. refl), ((λ v. refl), ((λ v. refl), ((λ v. refl), ((λ v. refl), ((λ v. refl), ((λ v. refl), ((λ v. refl), ((λ v. refl), (element, (alloca, (load, (store, ((λ v. refl), ((λ v. refl), ((λ v. refl), (align_behind, ((λ v. refl), ((λ v. refl), ((λ v. refl), (count_behind, ((λ v. refl), ((λ v. refl), ((λ v. refl), (indices_behind, ((λ v. refl), ((λ v. refl), ((λ v. refl), ((λ v. refl), ((λ v. refl), ((λ v. refl), ((λ v. refl), ((λ v. refl), ((λ v. refl), ((λ v. refl), ((λ v. refl), ((λ v. refl), ((λ v. refl), ((λ v. refl), ((λ v. refl), ((λ v. refl), ((λ v. refl), ((λ v. refl), ((λ v. refl), ((λ v. refl), ((λ v. refl), ((λ v. refl), ((λ v. refl), ((λ v. refl), ((λ v. refl), ((λ v. refl), ((λ v. refl), ((λ v. refl), ((λ v. refl), ((λ v. refl), ((λ v. refl), ((λ v. refl), ((λ v. refl), ((λ v. refl), ((λ v. refl), (body, ((λ v. refl), ((λ v. refl), ((λ v. refl), ((λ v. refl), (entries_behind, ((λ v. refl), ((λ v. refl), ((λ v. refl), ((λ v. refl), ((λ v. refl), ((λ v. refl), ((λ v. refl), ((λ v. refl), ((λ v. refl), ((λ v. refl), ((λ v. refl), ((λ v. refl), ((λ v. refl), ((λ v. refl), ((λ v. refl), tt))))))))))))))))))))))))))))))))))))))))))))))))))))))))))))))))))))))))))))))))))))))))))))))))))))))))))))))))))))))))))))))))))))))))))))))))))))))))))))))))))))))))))))))))))))))))))))))))))))))))))))))

pub lawful : IsLawful meaning
lawful = lawful_rules vocabulary is_vocabulary written_at first_rule rules right

pub by :
    (p : ℕ) → nat_lt p (length rules) ≡ true → (vs : Each meaning (meaning.grammar.right p)) → MadeEach meaning (meaning.grammar.right p) vs
    → Made meaning (meaning.grammar.left p) (made vocabulary (nth first_rule rules p) vs)
by p = tree vocabulary is_vocabulary written_at first_rule rules right p
