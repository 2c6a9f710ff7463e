-- The symbols of the right sides of rules.
use Rattle.std.specs.Prelude.{ℕ, List}
use Rattle.module_grammar.specs.Sorts.{vocabulary}
use Rattle.module_grammar.specs.Symbols.{kind_of}
use Rattle.module_grammar.specs.Symbols as symbol
use Rattle.predictive.specs.declared.symbol.Symbol.{Symbol}
use Rattle.predictive.specs.declared.symbol.Symbol.TheVariants.{Kind, Non}
use Rattle.predictive.specs.Typed.{Of, Rule}

abbrev pub LOCAL : Symbol
LOCAL = Kind 0

abbrev pub GLOBAL : Symbol
GLOBAL = Kind 1

-- a global name that begins with `llvm.dbg.`
abbrev pub DEBUG : Symbol
DEBUG = Kind 2

abbrev pub LABEL : Symbol
LABEL = Kind 3

abbrev pub NUMBER : Symbol
NUMBER = Kind 4

-- a type `iN`
abbrev pub WIDTH : Symbol
WIDTH = Kind 5

-- true, false
abbrev pub TRUTH : Symbol
TRUTH = Kind 6

-- a string that stands directly behind `c`
abbrev pub BYTES : Symbol
BYTES = Kind 7

-- add, sub, mul, shl
abbrev pub OVERFLOW : Symbol
OVERFLOW = Kind 8

-- udiv, sdiv, lshr, ashr
abbrev pub EXACT : Symbol
EXACT = Kind 9

-- urem, srem, and, or, xor
abbrev pub PLAIN : Symbol
PLAIN = Kind 10

-- zext, sext, trunc
abbrev pub RESIZE : Symbol
RESIZE = Kind 11

-- eq, ne, ugt, uge, ult, ule, sgt, sge, slt, sle
abbrev pub PRED : Symbol
PRED = Kind 12

-- nuw, nsw
abbrev pub FLAG : Symbol
FLAG = Kind 13

-- private, internal, common, available_externally, linkonce_odr, weak_odr
abbrev pub LINKAGE : Symbol
LINKAGE = Kind 14

-- signext, zeroext
abbrev pub EXTENSION : Symbol
EXTENSION = Kind 15

-- global, constant
abbrev pub HOLDING : Symbol
HOLDING = Kind 16

-- `*`
abbrev pub STAR : Symbol
STAR = Kind 17

-- `[`
abbrev pub BRACKET : Symbol
BRACKET = Kind 18

-- `{`
abbrev pub BRACE : Symbol
BRACE = Kind 19

-- null
abbrev pub NULL : Symbol
NULL = Kind 20

-- getelementptr
abbrev pub ELEMENT : Symbol
ELEMENT = Kind 21

-- bitcast
abbrev pub BITCAST : Symbol
BITCAST = Kind 22

-- a word or mark
abbrev pub fixed : symbol.Symbol → Symbol
fixed s = Kind (kind_of s)

abbrev pub comma : Symbol
comma = fixed symbol.comma

-- ---- the nonterminals

abbrev pub a_module : Symbol
a_module = Non 0

abbrev pub an_item : Symbol
an_item = Non 1

abbrev pub a_type_body : Symbol
a_type_body = Non 2

abbrev pub a_global_body : Symbol
a_global_body = Non 3

abbrev pub a_global_linkage : Symbol
a_global_linkage = Non 4

abbrev pub an_align : Symbol
an_align = Non 5

abbrev pub a_declared_name : Symbol
a_declared_name = Non 6

abbrev pub all_declared_params : Symbol
all_declared_params = Non 7

abbrev pub a_more_declared : Symbol
a_more_declared = Non 8

abbrev pub a_next_declared : Symbol
a_next_declared = Non 9

abbrev pub a_result : Symbol
a_result = Non 10

abbrev pub a_convention : Symbol
a_convention = Non 11

abbrev pub a_result_type : Symbol
a_result_type = Non 12

abbrev pub a_head : Symbol
a_head = Non 13

abbrev pub a_head_end : Symbol
a_head_end = Non 14

abbrev pub a_unnamed_addr : Symbol
a_unnamed_addr = Non 15

abbrev pub a_linkage : Symbol
a_linkage = Non 16

abbrev pub all_params : Symbol
all_params = Non 17

abbrev pub all_more_params : Symbol
all_more_params = Non 18

abbrev pub a_param : Symbol
a_param = Non 19

abbrev pub a_param_name : Symbol
a_param_name = Non 20

abbrev pub all_param_attributes : Symbol
all_param_attributes = Non 21

abbrev pub a_param_attribute : Symbol
a_param_attribute = Non 22

abbrev pub all_function_attributes : Symbol
all_function_attributes = Non 23

abbrev pub a_function_attribute : Symbol
a_function_attribute = Non 24

abbrev pub an_attribute_value : Symbol
an_attribute_value = Non 25

abbrev pub an_attached : Symbol
an_attached = Non 26

abbrev pub all_attachments : Symbol
all_attachments = Non 27

abbrev pub an_attachment : Symbol
an_attachment = Non 28

abbrev pub a_meta : Symbol
a_meta = Non 29

abbrev pub a_meta_arguments : Symbol
a_meta_arguments = Non 30

abbrev pub a_bang : Symbol
a_bang = Non 31

abbrev pub a_distinct : Symbol
a_distinct = Non 32

abbrev pub an_any_type : Symbol
an_any_type = Non 33

abbrev pub a_base_type : Symbol
a_base_type = Non 34

abbrev pub all_stars : Symbol
all_stars = Non 35

abbrev pub all_types : Symbol
all_types = Non 36

abbrev pub all_more_types : Symbol
all_more_types = Non 37

abbrev pub a_called : Symbol
a_called = Non 38

abbrev pub a_more_called : Symbol
a_more_called = Non 39

abbrev pub a_next_called : Symbol
a_next_called = Non 40

abbrev pub a_function_type : Symbol
a_function_type = Non 41

abbrev pub a_global_name : Symbol
a_global_name = Non 42

abbrev pub an_int : Symbol
an_int = Non 43

abbrev pub an_inbounds : Symbol
an_inbounds = Non 44

abbrev pub a_const : Symbol
a_const = Non 45

abbrev pub all_more_consts : Symbol
all_more_consts = Non 46

abbrev pub an_init : Symbol
an_init = Non 47

abbrev pub all_inits : Symbol
all_inits = Non 48

abbrev pub all_more_inits : Symbol
all_more_inits = Non 49

abbrev pub a_value : Symbol
a_value = Non 50

abbrev pub an_operand : Symbol
an_operand = Non 51

abbrev pub an_operator : Symbol
an_operator = Non 52

abbrev pub all_flags : Symbol
all_flags = Non 53

abbrev pub an_exactness : Symbol
an_exactness = Non 54

abbrev pub an_operation : Symbol
an_operation = Non 55

abbrev pub an_attach : Symbol
an_attach = Non 56

abbrev pub an_align_behind : Symbol
an_align_behind = Non 57

abbrev pub a_next_align : Symbol
a_next_align = Non 58

abbrev pub a_count_behind : Symbol
a_count_behind = Non 59

abbrev pub a_next_count : Symbol
a_next_count = Non 60

abbrev pub an_indices_behind : Symbol
an_indices_behind = Non 61

abbrev pub a_next_index : Symbol
a_next_index = Non 62

abbrev pub a_call_body : Symbol
a_call_body = Non 63

abbrev pub a_callee : Symbol
a_callee = Non 64

abbrev pub a_void_callee : Symbol
a_void_callee = Non 65

abbrev pub a_void_call : Symbol
a_void_call = Non 66

abbrev pub a_call_end : Symbol
a_call_end = Non 67

abbrev pub all_arguments : Symbol
all_arguments = Non 68

abbrev pub all_more_arguments : Symbol
all_more_arguments = Non 69

abbrev pub an_argument : Symbol
an_argument = Non 70

abbrev pub a_line : Symbol
a_line = Non 71

abbrev pub a_register : Symbol
a_register = Non 72

abbrev pub all_lines : Symbol
all_lines = Non 73

abbrev pub an_expr : Symbol
an_expr = Non 74

abbrev pub all_indices : Symbol
all_indices = Non 75

abbrev pub a_local_name : Symbol
a_local_name = Non 76

abbrev pub a_block : Symbol
a_block = Non 77

abbrev pub a_block_label : Symbol
a_block_label = Non 78

abbrev pub all_blocks : Symbol
all_blocks = Non 79

abbrev pub a_body : Symbol
a_body = Non 80

abbrev pub a_behind : Symbol
a_behind = Non 81

abbrev pub a_node : Symbol
a_node = Non 82

abbrev pub an_entries_behind : Symbol
an_entries_behind = Non 83

abbrev pub a_next_entry : Symbol
a_next_entry = Non 84

abbrev pub an_entry : Symbol
an_entry = Non 85

abbrev pub an_end : Symbol
an_end = Non 86

abbrev pub a_term : Symbol
a_term = Non 87

abbrev pub a_returned : Symbol
a_returned = Non 88

abbrev pub a_branch : Symbol
a_branch = Non 89

abbrev pub all_cases : Symbol
all_cases = Non 90

abbrev pub a_case : Symbol
a_case = Non 91

-- ---- a rule

-- by its left side, its right side, and what it makes of what stands there
abbrev pub rule : (n : ℕ) (s : List Symbol) → Of vocabulary s (vocabulary.Value n) → Rule vocabulary
rule n s make = record { left = n; right = s; make = make }
