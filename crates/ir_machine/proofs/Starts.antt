-- How a run starts.
use Rattle.std.proofs.Common.{◌≡◌, ◌≢◌, ◌<◌, ◌≤◌, ◌+◌, ℕ, zero, suc, true, false, List, [], ◌∷◌, ◌++◌, length, map, replicate, get_or, drop, Option, None, Some, refl, sym, ap, ap₂, ◌∙◌, subst, add-one, arith}
use Rattle.std.specs.Prelude.{slice_get, IfSome}
use Rattle.std.specs.List.{range_with_len}
use Rattle.std.specs.Option.{option_and_then, option_map, option_or}
use Rattle.std.proofs.lemmas.List.{append_assoc, length-append}
use Rattle.std.proofs.lemmas.List.FromFn.{map-range_with_len_more}
use Rattle.std.proofs.lemmas.Option.{slice_get-get_or}
use Rattle.std.proofs.Math.ListN.{drop_of_length-le}
use Rattle.ir_types.specs.declared.names.Name.{Name}
use Rattle.ir_types.specs.NameLaws.{same_nat_refl}
use Rattle.ir_types.specs.Same.{same_name}
use Rattle.ir_core.specs.declared.functions.Block.{Block}
use Rattle.ir_core.specs.declared.functions.Function.{Function}
use Rattle.ir_core.specs.declared.functions.Param.{Param}
use Rattle.ir_core.specs.declared.values.Byte.{Byte}
use Rattle.ir_core.specs.declared.values.Kind.{Kind}
use Rattle.ir_core.specs.declared.values.Kind.TheVariants as kind
use Rattle.ir_core.specs.declared.values.Value.{Value}
use Rattle.ir_core.specs.Types.{fits, kind_of}
use Rattle.block_memory.specs.declared.items.Shown.{Shown}
use Rattle.block_memory.specs.declared.items.ShownByte.{ShownByte}
use Rattle.block_memory.specs.Memory.{Memory, filled, new_cell}
use Rattle.block_memory.specs.Names.{Names}
use Rattle.ir_values.specs.Constants.{Scope}
use Rattle.ir_core.specs.declared.modules.GlobalVar.{GlobalVar}
use Rattle.ir_core.specs.declared.modules.Module.{Module}
use Rattle.ir_machine.specs.declared.inputs.Input.{Input}
use Rattle.ir_machine.specs.declared.inputs.InputBlock.{InputBlock}
use Rattle.ir_machine.specs.declared.inputs.InputPath.{InputPath}
use Rattle.ir_machine.specs.State.{Frame, Over, Running, State, World, scope_of}
use Rattle.ir_machine.specs.Registers.{Registers, align_or, no_registers, set}
use Rattle.ir_machine.specs.Machine.{at_block, at_kind, function_named, passed, resolve}
use Rattle.ir_machine.specs.Starting.{argument_misfit, arguments_misfit, at_entry, global_bytes, global_cell, handed, misfit, start, started, started_unless, world_at_start}
use Rattle.ir_machine.specs.Places.{at_line, frame_in, frame_of, registers_in, running_state, state_on}
use Rattle.ir_machine.specs.declared.machine.KeptFrame.{KeptFrame}
use Rattle.ir_machine.specs.Walks.{cell_given}
use Rattle.ir_machine.proofs.Handing.{none_passed}
use Rattle.ir_machine.proofs.Standing.{drop_at}
use Rattle.ir_machine.proofs.Unfitting.{or_none}

pub named_here : (x : Name) (fs : List Function) (i : ℕ) (f : Function) → i < length fs → f ≡ get_or fs i f → same_name f.name x ≡ true
    → function_named x (drop i fs) ≡ slice_get fs i
named_here x fs i f within is same =
    ap (function_named x) (drop_at fs i f within is) ∙ first ∙ sym (slice_get-get_or fs i f within ∙ ap Some (sym is))
  where
    first : function_named x (f ∷ drop (i + 1) fs) ≡ Some f
    first = rw same refl

pub named_later : (x : Name) (fs : List Function) (i : ℕ) (f : Function) → i < length fs → f ≡ get_or fs i f → same_name f.name x ≡ false
    → function_named x (drop i fs) ≡ function_named x (drop (i + 1) fs)
named_later x fs i f within is other = ap (function_named x) (drop_at fs i f within is) ∙ rest
  where
    rest : function_named x (f ∷ drop (i + 1) fs) ≡ function_named x (drop (i + 1) fs)
    rest = rw other refl

-- ---- names and blocks

counted : (from a b : ℕ) → map Some (range_with_len from a) ++ map Some (range_with_len (from + a) b) ≡ map Some (range_with_len from (a + b))
counted from zero b =
    let here : from + 0 ≡ from = omega arith in
    let all : 0 + b ≡ b = omega arith in
    ap (λ n. map Some (range_with_len n b)) here ∙ ap (λ n. map Some (range_with_len from n)) (sym all)
counted from (suc a) b =
    let there : from + suc a ≡ from + 1 + a = omega arith in
    let all : suc a + b ≡ suc (a + b) = omega arith in
    ap (λ n. Some from ∷ (map Some (range_with_len (from + 1) a) ++ map Some (range_with_len n b))) there
    ∙ ap (λ l. Some from ∷ l) (counted (from + 1) a b)
    ∙ ap (λ n. map Some (range_with_len from n)) (sym all)

counted_long : (from n : ℕ) → length (map Some (range_with_len from n)) ≡ n
counted_long from zero = refl
counted_long from (suc n) = ap suc (counted_long (from + 1) n)

pub bound_twice : (a b : ℕ) → map Some (range_with_len 0 a) ++ map Some (range_with_len (length (map Some (range_with_len 0 a))) b) ≡ map Some (range_with_len 0 (a + b))
bound_twice a b = let there : length (map Some (range_with_len 0 a)) ≡ 0 + a = counted_long 0 a ∙ omega arith in
    ap (λ n. map Some (range_with_len 0 a) ++ map Some (range_with_len n b)) there ∙ counted 0 a b

pub bound_more : (before names : List (Option ℕ)) (n : ℕ) → names ≡ before ++ map Some (range_with_len (length before) n)
    → names ++ (Some (length names) ∷ []) ≡ before ++ map Some (range_with_len (length before) (n + 1))
bound_more before names n is =
    let long : length names ≡ length before + n = ap length is ∙ length-append before (map Some (range_with_len (length before) n)) ∙ ap (λ k. length before + k) (counted_long (length before) n) in
    ap (λ ns. ns ++ (Some (length names) ∷ [])) is ∙ append_assoc before (map Some (range_with_len (length before) n)) (Some (length names) ∷ [])
    ∙ ap (λ more. before ++ more) (sym (map-range_with_len_more Some (length before) n (length names) (sym long)))

pub replicate_more : {A : Type 0} (x : A) (n : ℕ) → replicate (n + 1) x ≡ replicate n x ++ x ∷ []
replicate_more x n = ap (λ k. replicate k x) (add-one n) ∙ behind n
  where
    behind : (k : ℕ) → replicate (suc k) x ≡ replicate k x ++ x ∷ []
    behind zero = refl
    behind (suc k) = ap (λ l. x ∷ l) (behind k)

pub filled_whole : (bytes : List Byte) → filled (length bytes) bytes ≡ bytes
filled_whole [] = refl
filled_whole (b ∷ bytes) = ap (λ l. b ∷ l) (filled_whole bytes)

pub block_next : (byte : ShownByte → Byte) (old new whole : Memory) (xs : List InputBlock) (i : ℕ) (b : InputBlock) (bytes : List Byte) → i < length xs → b ≡ get_or xs i b
    → bytes ≡ map byte b.bytes → new ≡ old ++ (new_cell (length bytes) b.align bytes ∷ []) → old ++ map (cell_given byte) (drop i xs) ≡ whole
    → new ++ map (cell_given byte) (drop (i + 1) xs) ≡ whole
block_next byte old new whole xs i b bytes within is told made before =
    ap (λ l. l ++ map (cell_given byte) (drop (i + 1) xs)) (made ∙ ap (λ c. old ++ (c ∷ [])) cell)
    ∙ append_assoc old (cell_given byte b ∷ []) (map (cell_given byte) (drop (i + 1) xs))
    ∙ ap (λ l. old ++ map (cell_given byte) l) (sym (drop_at xs i b within is)) ∙ before
  where
    cell : new_cell (length bytes) b.align bytes ≡ cell_given byte b
    cell = ap (λ bs. record { align = b.align; live = true; bytes = bs }) (filled_whole bytes ∙ told)

pub global_next : (scope : Scope) (input : Input) (old new whole : Memory) (xs : List GlobalVar) (i : ℕ) (g : GlobalVar) (bytes : List Byte) (align : ℕ) → i < length xs → g ≡ get_or xs i g
    → bytes ≡ global_bytes scope input g g.init → align ≡ align_or scope.types g.ty g.align → new ≡ old ++ (new_cell (length bytes) align bytes ∷ [])
    → old ++ map (global_cell scope input) (drop i xs) ≡ whole → new ++ map (global_cell scope input) (drop (i + 1) xs) ≡ whole
global_next scope input old new whole xs i g bytes align within is told aligned made before =
    ap (λ l. l ++ map (global_cell scope input) (drop (i + 1) xs)) (made ∙ ap (λ c. old ++ (c ∷ [])) cell)
    ∙ append_assoc old (global_cell scope input g ∷ []) (map (global_cell scope input) (drop (i + 1) xs))
    ∙ ap (λ l. old ++ map (global_cell scope input) l) (sym (drop_at xs i g within is)) ∙ before
  where
    cell : new_cell (length bytes) align bytes ≡ global_cell scope input g
    cell = ap (λ a. new_cell (length bytes) a bytes) aligned
        ∙ ap (λ bs. record { align = align_or scope.types g.ty g.align; live = true; bytes = bs }) (filled_whole bytes ∙ told)

-- ---- registers

set_at_own : (registers : Registers) (x : Name) (k : Option Kind) (v : Value) → set registers x k (at_kind k k v) ≡ set registers x k v
set_at_own registers x None v = refl
set_at_own registers x (Some (kind.Int width)) v = rw (same_nat_refl width) refl
set_at_own registers x (Some kind.Ptr) v = refl

pub passed_next : (world : World) (ps : List Param) (args : List Shown) (i : ℕ) (p : Param) (a : Shown) (registers : Registers) → i < length ps → p ≡ get_or ps i p
    → i < length args → a ≡ get_or args i a
    → passed (drop i ps) (handed world (drop i ps) (drop i args)) registers
    ≡ passed (drop (i + 1) ps) (handed world (drop (i + 1) ps) (drop (i + 1) args)) (set registers p.name (kind_of p.ty) (resolve world a))
passed_next world ps args i p a registers wp ip wa ia =
    rw (drop_at ps i p wp ip, drop_at args i a wa ia) (ap (passed (drop (i + 1) ps) (handed world (drop (i + 1) ps) (drop (i + 1) args))) (set_at_own registers p.name (kind_of p.ty) (resolve world a)))

nothing_handed : (world : World) (ps : List Param) → handed world ps [] ≡ []
nothing_handed world [] = refl
nothing_handed world (p ∷ ps) = refl

pub passed_none : (world : World) (ps : List Param) (args : List Shown) (i : ℕ) (registers : Registers) → length args ≤ i
    → passed (drop i ps) (handed world (drop i ps) (drop i args)) registers ≡ registers
passed_none world ps args i registers past =
    rw (drop_of_length-le args past, nothing_handed world (drop i ps)) (none_passed (drop i ps) registers)

pub passed_all : (world : World) (ps : List Param) (args : List Shown) (i : ℕ) (registers : Registers) → length ps ≤ i
    → passed (drop i ps) (handed world (drop i ps) (drop i args)) registers ≡ registers
passed_all world ps args i registers past = rw (drop_of_length-le ps past) refl

module _ (names : Names) (ps : List Param) (args : List Shown) (i : ℕ) (p : Param) (a : Shown)
    (wp : i < length ps) (ip : p ≡ get_or ps i p) (wa : i < length args) (ia : a ≡ get_or args i a)
    (e : arguments_misfit names i (drop i ps) (drop i args) ≡ None) where
  both : option_or (argument_misfit names (kind_of p.ty) a i) (arguments_misfit names (suc i) (drop (i + 1) ps) (drop (i + 1) args)) ≡ None
  both = sym (rw (drop_at ps i p wp ip, drop_at args i a wa ia) refl) ∙ e

  pub argument_fits : argument_misfit names (kind_of p.ty) a i ≡ None
  argument_fits = (or_none _ _ both).0

  pub arguments_fit : arguments_misfit names (i + 1) (drop (i + 1) ps) (drop (i + 1) args) ≡ None
  arguments_fit = ap (λ n. arguments_misfit names n (drop (i + 1) ps) (drop (i + 1) args)) (add-one i) ∙ (or_none _ _ both).1

-- ---- the start

-- a run starts at the first line of the first block
pub starts_at : (m : Module) (x : Name) (input : Input) (f : Function) (kept : KeptFrame) (world : World) → function_named x m.functions ≡ Some f
    → slice_get m.functions kept.place.function ≡ Some f → kept.place.block ≡ 0 → kept.place.line ≡ 0 → kept.own.items ≡ [] → f.blocks ≢ []
    → misfit (scope_of m) f.params input ≡ None → world ≡ world_at_start (scope_of m) input
    → registers_in kept.registers ≡ passed f.params (handed world f.params input.args) no_registers
    → start m x input ≡ Some (state_on m (Some kept) false world (Some []))
starts_at m x input f kept world named at block line own blocks fits is registers =
    ap (option_and_then (λ g. started (scope_of m) g input)) named ∙ ap (λ o. started_unless o (world_at_start (scope_of m) input) f input.args) fits
    ∙ ap (λ w. at_entry w f f.blocks input.args) (sym is) ∙ first_block f.blocks blocks refl
  where
    kept_there : (b : Block) → slice_get f.blocks 0 ≡ Some b
        → frame_of m kept ≡ Some (at_block f b (passed f.params (handed world f.params input.args) no_registers) [])
    kept_there b first =
        ap (option_and_then (λ g. frame_in g kept)) at
        ∙ ap (λ n. option_map (λ c. at_line f c kept.place.line (registers_in kept.registers) kept.own.items) (slice_get f.blocks n)) block
        ∙ ap (option_map (λ c. at_line f c kept.place.line (registers_in kept.registers) kept.own.items)) first
        ∙ ap (λ n. Some (at_line f b n (registers_in kept.registers) kept.own.items)) line
        ∙ ap₂ (λ r o. Some (at_line f b 0 r o)) registers own

    first_block : (bs : List Block) → bs ≢ [] → f.blocks ≡ bs → at_entry world f f.blocks input.args ≡ Some (state_on m (Some kept) false world (Some []))
    first_block [] some e = absurd (some refl)
    first_block (b ∷ bs) some e =
        ap (λ l. at_entry world f l input.args) e ∙ ap (λ o. Some (running_state o [] world)) (sym (kept_there b (ap (λ l. slice_get l 0) e)))

some_is : {A : Type 0} {a b : A} → Some a ≡ Some b → a ≡ b
some_is e = cc

by_over : (frame : Frame) (w : World) (s : State) → Running frame [] w ≡ s → s ≡ Over → ⊥
by_over frame w s e over = let both : Running frame [] w ≡ Over = e ∙ over in cc

-- a state in which a run starts isn't over
started_runs : (w : World) (f : Function) (bs : List Block) (args : List Shown) (s : State) → at_entry w f bs args ≡ Some s → s ≢ Over
started_runs w f [] args s e = cc
started_runs w f (b ∷ bs) args s e = λ over. by_over (at_block f b (passed f.params (handed w f.params args) no_registers) []) w s (some_is e) over

unless_runs : (o : Option InputPath) (w : World) (f : Function) (args : List Shown) (s : State) → started_unless o w f args ≡ Some s → s ≢ Over
unless_runs None w f args s e = started_runs w f f.blocks args s e
unless_runs (Some p) w f args s e = cc

some_runs : (m : Module) (input : Input) (o : Option Function) (s : State) → option_and_then (λ f. started (scope_of m) f input) o ≡ Some s → s ≢ Over
some_runs m input None s e = cc
some_runs m input (Some f) s e = unless_runs (misfit (scope_of m) f.params input) (world_at_start (scope_of m) input) f input.args s e

pub starts_running : (m : Module) (x : Name) (input : Input) (s : State) → start m x input ≡ Some s → s ≢ Over
starts_running m x input s e = some_runs m input (function_named x m.functions) s e

-- ---- what `start` tells

module _ (m : Module) (x : Name) (i : ℕ) (f : Function) (within : i < length m.functions) (named : function_named x m.functions ≡ slice_get m.functions i)
    (is : f ≡ get_or m.functions i f) where
  pub function_at : slice_get m.functions i ≡ Some f
  function_at = slice_get-get_or m.functions i f within ∙ ap Some (sym is)

  pub function_is : function_named x m.functions ≡ Some f
  function_is = named ∙ function_at

  pub has_blocks : IfSome (function_named x m.functions) (λ g. g.blocks ≢ []) → f.blocks ≢ []
  has_blocks h = subst (λ o. IfSome o (λ g. g.blocks ≢ [])) function_is h

  pub is_there : function_named x m.functions ≡ None → ⊥
  is_there none = let both : Some f ≡ None = sym function_is ∙ none in cc

  -- an input that fits has no misfit
  pub no_misfit : (input : Input) → misfit (scope_of m) f.params input ≡ None → (P : Type 0)
      → IfSome (function_named x m.functions) (λ g. (place : InputPath) → misfit (scope_of m) g.params input ≡ Some place → P)
  no_misfit input fits P = subst (λ o. IfSome o (λ g. (place : InputPath) → misfit (scope_of m) g.params input ≡ Some place → P)) (sym function_is)
      (λ place some. absurd (differ place (sym fits ∙ some)))
    where
      differ : (place : InputPath) → None ≡ Some place → ⊥
      differ place e = cc
