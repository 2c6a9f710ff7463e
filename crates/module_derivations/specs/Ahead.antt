-- What stands ahead in a derivation of the grammar of modules.
use Rattle.std.specs.Prelude.{ℕ, Bool, true, false, not, cond, nat_eq, nat_lt, List, [], ◌∷◌, Option, Some, get_or}
use Rattle.module_derivations.specs.Types.{any_type, base_type_by, stars_by, types_by, more_types_by, called_by, more_called_by, next_called_by, function_type_by}
use Rattle.module_derivations.specs.Constants.{global_name_by, integer_by, inbounds_by, constant_by, more_consts_by, init_by, inits_by, more_inits_by, value_by, operand}
use Rattle.module_derivations.specs.Attributes.{param_attributes_by, param_attribute_by, function_attributes_by, function_attribute_by, attribute_value_by, attached_by, attachments_by, attachment, meta_by, meta_arguments_by, bang_by, distinct_by}
use Rattle.module_derivations.specs.Functions.{declared_name_by, declared_params_by, more_declared_by, next_declared_by, result, convention_by, result_type_by, head, head_end, unnamed_addr_by, linkage_by, params_by, more_params_by, param, param_name_by}
use Rattle.module_derivations.specs.Lines.{operator_by, flags_by, exactness_by, operation_by, attach_by, align_behind_by, next_align_by, count_behind_by, next_count_by, indices_behind_by, next_index_by, call_body_by, callee, void_callee_by, void_call_by, call_end, arguments_by, more_arguments_by, argument, line, register_by, lines_by, expr_by, indices_by, local_name}
use Rattle.module_derivations.specs.Blocks.{block, block_label_by, blocks_by, body_by, behind_register_by, node, entries_behind_by, next_entry_by, entry, end, term_by, returned_by, branch_by, cases_by, case}
use Rattle.module_derivations.specs.Items.{whole_by, item_by, type_body_by, global_body_by, global_linkage_by, align_by}
use Rattle.module_derivations.specs.declared.rule.TheConstants as rule
use Rattle.module_derivations.specs.Parts.{Made, Part}
use Rattle.module_derivations.specs.Empty.{made, nothing, said}
use Rattle.module_derivations.specs.Said.{said_as}
use Rattle.module_derivations.specs.FlatMarks.Flat.{Mark, marks_from, parts}
use Rattle.module_derivations.specs.FlatMarks.Seeing.{Seeing}
use Rattle.module_grammar.specs.Kinds.{kind}
use Rattle.module_grammar.specs.Sorts.{Sort, Holds, sort, vocabulary, Module, Item, TypeBody, GlobalBody, GlobalLinkage, Align, DeclaredName, DeclaredParams, MoreDeclared, NextDeclared, Result, Convention, ResultType, Head, HeadEnd, UnnamedAddr, Linkage, Params, MoreParams, Param, ParamName, ParamAttributes, ParamAttribute, FunctionAttributes, FunctionAttribute, AttributeValue, Attached, Attachments, Attachment, Meta, MetaArguments, Bang, Distinct, AnyType, BaseType, Stars, Types, MoreTypes, Called, MoreCalled, NextCalled, FunctionType, GlobalName, Int, Inbounds, Const, MoreConsts, Init, Inits, MoreInits, Value, Operand, Operator, Flags, Exactness, Operation, Attach, AlignBehind, NextAlign, CountBehind, NextCount, IndicesBehind, NextIndex, CallBody, Callee, VoidCallee, VoidCall, CallEnd, Arguments, MoreArguments, Argument, Line, Register, Lines, Expr, Indices, LocalName, Block, BlockLabel, Blocks, Body, Behind, Node, EntriesBehind, NextEntry, Entry, End, Term, Returned, Branch, Cases, Case}
use Rattle.module_grammar.specs.Symbols.{Symbol, balanced, foreign, kind_of}
use Rattle.predictive.specs.Grammar.{Forest}

-- what a rule makes of the parts behind its beginning
abbrev pub made_by : Option ℕ → List Part → Made
made_by r s = record {
  whole = whole_by r s;
  item = item_by r s;
  type_body = type_body_by r s;
  global_body = global_body_by r s;
  global_linkage = global_linkage_by r s;
  align = align_by r s;
  declared_name = declared_name_by r s;
  declared_params = declared_params_by r s;
  more_declared = more_declared_by r s;
  next_declared = next_declared_by r s;
  convention = convention_by r s;
  result_type = result_type_by r s;
  unnamed_addr = unnamed_addr_by r s;
  linkage = linkage_by r s;
  params = params_by r s;
  more_params = more_params_by r s;
  param_name = param_name_by r s;
  param_attributes = param_attributes_by r s;
  param_attribute = param_attribute_by r s;
  function_attributes = function_attributes_by r s;
  function_attribute = function_attribute_by r s;
  attribute_value = attribute_value_by r s;
  attached = attached_by r s;
  attachments = attachments_by r s;
  meta = meta_by r s;
  meta_arguments = meta_arguments_by r s;
  bang = bang_by r s;
  distinct = distinct_by r s;
  base_type = base_type_by r s;
  stars = stars_by r s;
  types = types_by r s;
  more_types = more_types_by r s;
  called = called_by r s;
  more_called = more_called_by r s;
  next_called = next_called_by r s;
  function_type = function_type_by r s;
  global_name = global_name_by r s;
  integer = integer_by r s;
  inbounds = inbounds_by r s;
  constant = constant_by r s;
  more_consts = more_consts_by r s;
  init = init_by r s;
  inits = inits_by r s;
  more_inits = more_inits_by r s;
  value = value_by r s;
  operator = operator_by r s;
  flags = flags_by r s;
  exactness = exactness_by r s;
  operation = operation_by r s;
  attach = attach_by r s;
  align_behind = align_behind_by r s;
  next_align = next_align_by r s;
  count_behind = count_behind_by r s;
  next_count = next_count_by r s;
  indices_behind = indices_behind_by r s;
  next_index = next_index_by r s;
  call_body = call_body_by r s;
  void_callee = void_callee_by r s;
  void_call = void_call_by r s;
  arguments = arguments_by r s;
  more_arguments = more_arguments_by r s;
  register = register_by r s;
  lines = lines_by r s;
  expr = expr_by r s;
  indices = indices_by r s;
  block_label = block_label_by r s;
  blocks = blocks_by r s;
  body = body_by r s;
  behind_register = behind_register_by r s;
  entries_behind = entries_behind_by r s;
  next_entry = next_entry_by r s;
  term = term_by r s;
  returned = returned_by r s;
  branch = branch_by r s;
  cases = cases_by r s;
}

-- the part that a token is
abbrev pub leaf_part : Symbol → Part
leaf_part s = record { leaf = s; made = nothing }

-- the part that a rule makes
abbrev pub rule_part : ℕ → List Part → Part
rule_part p s = record { leaf = foreign; made = made_by (Some p) s }

-- what stands in front, as a nonterminal
abbrev pub seen : (x : Sort) → List Part → Holds x
seen Module s = (made s).whole
seen Item s = (made s).item
seen TypeBody s = (made s).type_body
seen GlobalBody s = (made s).global_body
seen GlobalLinkage s = (made s).global_linkage
seen Align s = (made s).align
seen DeclaredName s = (made s).declared_name
seen DeclaredParams s = (made s).declared_params
seen MoreDeclared s = (made s).more_declared
seen NextDeclared s = (made s).next_declared
seen Result s = result s
seen Convention s = (made s).convention
seen ResultType s = (made s).result_type
seen Head s = head s
seen HeadEnd s = head_end s
seen UnnamedAddr s = (made s).unnamed_addr
seen Linkage s = (made s).linkage
seen Params s = (made s).params
seen MoreParams s = (made s).more_params
seen Param s = param s
seen ParamName s = (made s).param_name
seen ParamAttributes s = (made s).param_attributes
seen ParamAttribute s = (made s).param_attribute
seen FunctionAttributes s = (made s).function_attributes
seen FunctionAttribute s = (made s).function_attribute
seen AttributeValue s = (made s).attribute_value
seen Attached s = (made s).attached
seen Attachments s = (made s).attachments
seen Attachment s = attachment s
seen Meta s = (made s).meta
seen MetaArguments s = (made s).meta_arguments
seen Bang s = (made s).bang
seen Distinct s = (made s).distinct
seen AnyType s = any_type s
seen BaseType s = (made s).base_type
seen Stars s = (made s).stars
seen Types s = (made s).types
seen MoreTypes s = (made s).more_types
seen Called s = (made s).called
seen MoreCalled s = (made s).more_called
seen NextCalled s = (made s).next_called
seen FunctionType s = (made s).function_type
seen GlobalName s = (made s).global_name
seen Int s = (made s).integer
seen Inbounds s = (made s).inbounds
seen Const s = (made s).constant
seen MoreConsts s = (made s).more_consts
seen Init s = (made s).init
seen Inits s = (made s).inits
seen MoreInits s = (made s).more_inits
seen Value s = (made s).value
seen Operand s = operand s
seen Operator s = (made s).operator
seen Flags s = (made s).flags
seen Exactness s = (made s).exactness
seen Operation s = (made s).operation
seen Attach s = (made s).attach
seen AlignBehind s = (made s).align_behind
seen NextAlign s = (made s).next_align
seen CountBehind s = (made s).count_behind
seen NextCount s = (made s).next_count
seen IndicesBehind s = (made s).indices_behind
seen NextIndex s = (made s).next_index
seen CallBody s = (made s).call_body
seen Callee s = callee s
seen VoidCallee s = (made s).void_callee
seen VoidCall s = (made s).void_call
seen CallEnd s = call_end s
seen Arguments s = (made s).arguments
seen MoreArguments s = (made s).more_arguments
seen Argument s = argument s
seen Line s = line s
seen Register s = (made s).register
seen Lines s = (made s).lines
seen Expr s = (made s).expr
seen Indices s = (made s).indices
seen LocalName s = local_name s
seen Block s = block s
seen BlockLabel s = (made s).block_label
seen Blocks s = (made s).blocks
seen Body s = (made s).body
seen Behind s = (made s).behind_register
seen Node s = node s
seen EntriesBehind s = (made s).entries_behind
seen NextEntry s = (made s).next_entry
seen Entry s = entry s
seen End s = end s
seen Term s = (made s).term
seen Returned s = (made s).returned
seen Branch s = (made s).branch
seen Cases s = (made s).cases
seen Case s = case s

-- ---- what is written down

-- rules of nonterminals that have one
abbrev pub lonely : List ℕ
lonely =
    rule.RESULT ∷ rule.HEAD ∷ rule.HEAD_END ∷ rule.PARAM ∷ rule.ATTACHMENT ∷ rule.POINTERS ∷ rule.OPERAND ∷ rule.CALLEE ∷
    rule.CALL_END ∷ rule.ARGUMENT ∷ rule.LINE ∷ rule.LOCAL_NAME ∷ rule.BLOCK ∷ rule.NODE ∷ rule.ENTRY ∷ rule.END ∷ rule.CASE ∷ []

abbrev pub is_among : ℕ → List ℕ → Bool
is_among p [] = false
is_among p (q ∷ qs) = cond (nat_eq p q) true (is_among p qs)

abbrev pub chosen : ℕ → Bool
chosen p = not (is_among p lonely)

-- kinds that say more than themselves
abbrev pub says : ℕ → Bool
says k = nat_lt k 23

-- the parts behind the beginning of each rule
abbrev pub arities : List ℕ
arities =
    0 ∷ 2 ∷ 0 ∷ 2 ∷ 2 ∷ 4 ∷ 2 ∷ 2 ∷ 15 ∷ 0 ∷ 2 ∷ 5 ∷ 7 ∷ 0 ∷ 1 ∷ 0 ∷ 1 ∷ 4 ∷ 4 ∷ 0 ∷ 1 ∷ 0 ∷ 1 ∷ 0 ∷ 5 ∷ 3 ∷ 0 ∷ 0 ∷ 0 ∷ 2 ∷ 7 ∷ 2 ∷ 0 ∷ 0 ∷
    0 ∷ 1 ∷ 0 ∷ 0 ∷ 5 ∷ 0 ∷ 5 ∷ 4 ∷ 0 ∷ 1 ∷ 0 ∷ 2 ∷ 1 ∷ 0 ∷ 0 ∷ 1 ∷ 1 ∷ 0 ∷ 2 ∷ 0 ∷ 1 ∷ 1 ∷ 1 ∷ 0 ∷ 0 ∷ 0 ∷ 0 ∷ 0 ∷ 1 ∷ 0 ∷ 2 ∷ 1 ∷ 1 ∷ 1 ∷
    0 ∷ 1 ∷ 0 ∷ 2 ∷ 0 ∷ 0 ∷ 2 ∷ 1 ∷ 1 ∷ 4 ∷ 2 ∷ 0 ∷ 2 ∷ 0 ∷ 3 ∷ 0 ∷ 3 ∷ 0 ∷ 1 ∷ 0 ∷ 1 ∷ 0 ∷ 3 ∷ 0 ∷ 1 ∷ 1 ∷ 1 ∷ 1 ∷ 1 ∷ 0 ∷ 0 ∷ 1 ∷ 1 ∷ 0 ∷
    1 ∷ 8 ∷ 6 ∷ 0 ∷ 4 ∷ 1 ∷ 0 ∷ 1 ∷ 2 ∷ 2 ∷ 0 ∷ 4 ∷ 0 ∷ 4 ∷ 1 ∷ 1 ∷ 1 ∷ 1 ∷ 3 ∷ 2 ∷ 2 ∷ 1 ∷ 0 ∷ 2 ∷ 0 ∷ 0 ∷ 5 ∷ 5 ∷ 6 ∷ 6 ∷ 9 ∷ 2 ∷ 8 ∷ 3 ∷
    6 ∷ 7 ∷ 2 ∷ 2 ∷ 0 ∷ 1 ∷ 2 ∷ 2 ∷ 0 ∷ 1 ∷ 4 ∷ 1 ∷ 0 ∷ 1 ∷ 4 ∷ 2 ∷ 6 ∷ 7 ∷ 6 ∷ 1 ∷ 3 ∷ 1 ∷ 2 ∷ 3 ∷ 3 ∷ 2 ∷ 0 ∷ 5 ∷ 0 ∷ 5 ∷ 4 ∷ 2 ∷ 0 ∷ 1 ∷
    0 ∷ 3 ∷ 3 ∷ 1 ∷ 8 ∷ 6 ∷ 0 ∷ 4 ∷ 1 ∷ 4 ∷ 0 ∷ 1 ∷ 0 ∷ 5 ∷ 0 ∷ 2 ∷ 7 ∷ 2 ∷ 6 ∷ 0 ∷ 1 ∷ 4 ∷ 2 ∷ 3 ∷ 2 ∷ 1 ∷ 1 ∷ 6 ∷ 0 ∷ 0 ∷ 3 ∷ 1 ∷ 5 ∷ 0 ∷
    5 ∷ 4 ∷ 0 ∷ 2 ∷ 2 ∷ 3 ∷ 3 ∷ 0 ∷ 0 ∷ 0 ∷ 0 ∷ 0 ∷ 0 ∷ 0 ∷ 0 ∷ 0 ∷ 0 ∷ 0 ∷ 0 ∷ 0 ∷ 0 ∷ 0 ∷ 0 ∷ 0 ∷ 0 ∷ 0 ∷ 0 ∷ 0 ∷ 0 ∷ 0 ∷ 0 ∷ 0 ∷ 0 ∷ 0 ∷
    0 ∷ 0 ∷ 0 ∷ 0 ∷ 0 ∷ 0 ∷ 0 ∷ 0 ∷ 0 ∷ 0 ∷ 0 ∷ 0 ∷ 0 ∷ 0 ∷ 0 ∷ 0 ∷ 0 ∷ 0 ∷ 0 ∷ 0 ∷ 0 ∷ 1 ∷ 1 ∷ 1 ∷ 1 ∷ 1 ∷ 1 ∷ 1 ∷ 1 ∷ 1 ∷ 1 ∷ 1 ∷ 1 ∷ 1 ∷
    1 ∷ 1 ∷ 1 ∷ 1 ∷ 1 ∷ 1 ∷ 1 ∷ 1 ∷ []

abbrev pub arity : ℕ → ℕ
arity p = get_or arities p 0

-- the parts of each nonterminal
abbrev pub sizes : List ℕ
sizes =
    1 ∷ 1 ∷ 1 ∷ 1 ∷ 1 ∷ 1 ∷ 1 ∷ 1 ∷ 1 ∷ 1 ∷ 3 ∷ 1 ∷ 1 ∷ 7 ∷ 2 ∷ 1 ∷ 1 ∷ 1 ∷ 1 ∷ 4 ∷ 1 ∷ 1 ∷ 1 ∷ 1 ∷ 1 ∷ 1 ∷ 1 ∷ 1 ∷ 1 ∷ 1 ∷ 1 ∷ 1 ∷ 1 ∷ 2 ∷
    1 ∷ 1 ∷ 1 ∷ 1 ∷ 1 ∷ 1 ∷ 1 ∷ 1 ∷ 1 ∷ 1 ∷ 1 ∷ 1 ∷ 1 ∷ 1 ∷ 1 ∷ 1 ∷ 1 ∷ 3 ∷ 1 ∷ 1 ∷ 1 ∷ 1 ∷ 1 ∷ 1 ∷ 1 ∷ 1 ∷ 1 ∷ 1 ∷ 1 ∷ 1 ∷ 3 ∷ 1 ∷ 1 ∷ 2 ∷
    1 ∷ 1 ∷ 4 ∷ 2 ∷ 1 ∷ 1 ∷ 1 ∷ 1 ∷ 1 ∷ 4 ∷ 1 ∷ 1 ∷ 1 ∷ 1 ∷ 6 ∷ 1 ∷ 1 ∷ 3 ∷ 2 ∷ 1 ∷ 1 ∷ 1 ∷ 1 ∷ 4 ∷ 1 ∷ 1 ∷ []

abbrev pub size : ℕ → ℕ
size n = get_or sizes n 1

abbrev pub seeing : Seeing vocabulary
seeing = record {
  chosen = chosen;
  says = says;
  gap = kind_of balanced;
  Part = Part;
  leaf = leaf_part;
  node = rule_part;
  arity = arity;
  size = size;
  content = λ k s. said_as (kind k) (said s);
  value = λ n s. seen (sort n) s;
}

-- what marks make in a text of these symbols
abbrev pub ahead : List Symbol → List Mark → List Part
ahead symbols marks = parts arity rule_part (λ i. leaf_part (get_or symbols i foreign)) marks

-- what a parser writes down along trees
abbrev pub marks : Forest → List Mark
marks f = marks_from chosen says 0 f
