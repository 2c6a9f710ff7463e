-- In a function of whose names none stands twice each name is new where it comes.
use Rattle.std.proofs.Common.{◌≡◌, ◌∙◌, ◌&&◌, ◌+◌, ℕ, suc, true, false, not, List, [], ◌∷◌, ◌++◌, length, map, Option, None, Some, append_assoc, arith, refl, sym, ap, subst, inl, inr}
use Rattle.std.specs.List.{Contains, flat_map}
use Rattle.ir_core.specs.declared.functions.Block.{Block}
use Rattle.ir_core.specs.declared.functions.Function.{Function}
use Rattle.ir_core.specs.declared.functions.Instr.{Instr}
use Rattle.ir_core.specs.declared.functions.Phi.{Phi}
use Rattle.ir_core.specs.declared.modules.Module.{Module}
use Rattle.ir_core.specs.Functions.{block_names, edges_into, name_set, names_in, names_of, params_of, phi_registers, set_by}
use Rattle.ir_core.proofs.Lines.{names_more, names_one}
use Rattle.ir_types.specs.declared.names.Name.{Name}
use Rattle.ir_shape.specs.LineShapes.Told.{end_kind, line_kind, phi_kind}
use Rattle.ir_core.specs.NameIndexes.Among.{is_among}
use Rattle.ir_typing.specs.declared.shape_kinds.kind.ShapeKind.{ShapeKind}
use Rattle.ir_typing.specs.ShapeKinds.Names.{are_new, with_name, with_names}
use Rattle.ir_typing.specs.ShapeKinds.Typed.{Types}
use Rattle.ir_shape.proofs.ShapeTests.Taken.{Among, all_kept, kept, names_joined, new_joined, not_taken, old_or_new, put, registers_joined}
use Rattle.ir_shape.proofs.ShapeTests.Tests.{both_left, both_right, not_true}
use Rattle.ir_shape.specs.ShapeTests.Kinds.{block_kind}
use Rattle.ir_shape.specs.Apart.{in_each, in_new_block, in_new_blocks, in_new_body, new_line_kinds, new_phi_kinds}
use Rattle.ir_shape.specs.Shape.{in_block, in_blocks, in_body, in_kinds, in_line, is_name_taken, is_taken, line_kinds, phi_kinds, with_block, with_lines, with_phis}

-- ---- names, one after the other

new_block : (taken : List Name) (b : Block)
    → are_new taken (block_names b)
    ≡ (not (is_among b.name taken) && (are_new (with_name taken b.name) (names_in (phi_registers b.phis)) && are_new (with_phis (with_name taken b.name) b.phis) (names_in (set_by b.body))))
new_block taken b =
    ap (λ t. not (is_among b.name taken) && t)
    (ap (are_new (with_name taken b.name)) (registers_joined (phi_registers b.phis) (set_by b.body))
    ∙ new_joined (with_name taken b.name) (names_in (phi_registers b.phis)) (names_in (set_by b.body)))

taken_then : (taken : List Name) (b : Block) → with_names taken (block_names b) ≡ with_block taken b
taken_then taken b =
    ap (with_names (with_name taken b.name)) (registers_joined (phi_registers b.phis) (set_by b.body))
    ∙ names_joined (with_name taken b.name) (names_in (phi_registers b.phis)) (names_in (set_by b.body))

new_blocks : (taken : List Name) (b : Block) (bs : List Block)
    → are_new taken (flat_map block_names (b ∷ bs)) ≡ (are_new taken (block_names b) && are_new (with_block taken b) (flat_map block_names bs))
new_blocks taken b bs =
    new_joined taken (block_names b) (flat_map block_names bs)
    ∙ ap (λ ns. are_new taken (block_names b) && are_new ns (flat_map block_names bs)) (taken_then taken b)

-- ---- kinds

module _ (f b : Name) where
  later : (line : ℕ) (ks ls : List (Option ShapeKind)) → in_each f b line (ks ++ ls) ≡ in_each f b line ks ++ in_each f b (line + length ks) ls
  later line [] ls = ap (λ n. in_each f b n ls) (omega arith)
  later line (k ∷ ks) ls =
      ap (λ zs. in_line f b line k ++ zs) (later (line + 1) ks ls ∙ ap (λ n. in_each f b (line + 1) ks ++ in_each f b n ls) (omega arith))
      ∙ sym (append_assoc (in_line f b line k) (in_each f b (line + 1) ks) (in_each f b (line + suc (length ks)) ls))

  kinds_each : (line : ℕ) (ks : List (Option ShapeKind)) (end : Option ShapeKind) → in_kinds f b line None ks end ≡ in_each f b line ks ++ in_line f b (line + length ks) end
  kinds_each line [] end = ap (λ n. in_line f b n end) (omega arith)
  kinds_each line (k ∷ ks) end =
      ap (λ zs. in_line f b line k ++ zs) (kinds_each (line + 1) ks end ∙ ap (λ n. in_each f b (line + 1) ks ++ in_line f b n end) (omega arith))
      ∙ sym (append_assoc (in_line f b line k) (in_each f b (line + 1) ks) (in_line f b (line + suc (length ks)) end))

module _ (m : Module) (labels : List Name) (types : Types) where
  phis_new : (edges taken : List Name) (ps : List Phi) → are_new taken (names_in (phi_registers ps)) ≡ true → phi_kinds m labels types edges taken ps ≡ new_phi_kinds m labels types edges ps
  phis_new edges taken [] new = refl
  phis_new edges taken (p ∷ ps) new =
      let first = both_left (not (is_among p.name taken)) (are_new (with_name taken p.name) (names_in (phi_registers ps))) new in
      let rest = both_right (not (is_among p.name taken)) (are_new (with_name taken p.name) (names_in (phi_registers ps))) new in
      ap (λ t. phi_kind m labels types edges t p ∷ phi_kinds m labels types edges (with_name taken p.name) ps) first
      ∙ ap (λ ks. phi_kind m labels types edges true p ∷ ks) (phis_new edges (with_name taken p.name) ps rest)

  one_not_taken : (taken : List Name) (l : Instr) (name : Option Name) → name_set l ≡ name → are_new taken (names_in (set_by (l ∷ []))) ≡ true → not (is_taken taken l) ≡ true
  one_not_taken taken l None e new = ap (λ n. not (is_name_taken taken n)) e
  one_not_taken taken l (Some name) e new =
      ap (λ n. not (is_name_taken taken n)) e
      ∙ both_left (not (is_among name taken)) (are_new (with_name taken name) []) (sym (ap (are_new taken) (names_one l name e)) ∙ new)

  lines_new : (taken : List Name) (ls : List Instr) → are_new taken (names_in (set_by ls)) ≡ true → line_kinds m types taken ls ≡ new_line_kinds m types ls
  lines_new taken [] new = refl
  lines_new taken (l ∷ ls) new =
      let own = names_in (set_by (l ∷ [])) in
      let all : (are_new taken own && are_new (with_names taken own) (names_in (set_by ls))) ≡ true =
      sym (ap (are_new taken) (names_more l ls) ∙ new_joined taken own (names_in (set_by ls))) ∙ new in
      let first = one_not_taken taken l (name_set l) refl (both_left (are_new taken own) (are_new (with_names taken own) (names_in (set_by ls))) all) in
      let rest = both_right (are_new taken own) (are_new (with_names taken own) (names_in (set_by ls))) all in
      ap (λ t. line_kind m types t l ∷ line_kinds m types (with_lines taken (l ∷ [])) ls) first
      ∙ ap (λ ks. line_kind m types true l ∷ ks) (lines_new (with_lines taken (l ∷ [])) ls rest)

  module _ (f : Function) (entry : Name) where
    abbrev end_of : Block → Option ShapeKind
    end_of b = end_kind m labels types entry f.result b.term

    length_map : {A B : Type 0} (g : A → B) (xs : List A) → length (map g xs) ≡ length xs
    length_map g [] = refl
    length_map g (x ∷ xs) = ap suc (length_map g xs)

    length_both : {A : Type 0} (xs ys : List A) → length (xs ++ ys) ≡ length xs + length ys
    length_both [] ys = omega arith
    length_both (x ∷ xs) ys = omega (arith, length_both xs ys)

    -- its kinds where each name is new
    new_kinds : (b : Block) → in_kinds f.name b.name 0 None (new_phi_kinds m labels types (edges_into f b.name) b.phis ++ new_line_kinds m types b.body) (end_of b)
        ≡ in_new_block m f labels types entry b
    new_kinds b =
        let ps = new_phi_kinds m labels types (edges_into f b.name) b.phis in
        let ls = new_line_kinds m types b.body in
        let phis : length ps ≡ length b.phis = length_map (λ (p : Phi). phi_kind m labels types (edges_into f b.name) true p) b.phis in
        let lines : length ls ≡ length b.body = length_map (λ (l : Instr). line_kind m types true l) b.body in
        let both : 0 + length (ps ++ ls) ≡ length b.phis + length b.body = omega (arith, length_both ps ls, phis, lines) in
        let first : 0 + length ps ≡ length b.phis = omega (arith, phis) in
        kinds_each f.name b.name 0 (ps ++ ls) (end_of b)
        ∙ ap (λ n. in_each f.name b.name 0 (ps ++ ls) ++ in_line f.name b.name n (end_of b)) both
        ∙ ap (λ zs. zs ++ in_line f.name b.name (length b.phis + length b.body) (end_of b)) (later f.name b.name 0 ps ls)
        ∙ ap (λ n. (in_each f.name b.name 0 ps ++ in_each f.name b.name n ls) ++ in_line f.name b.name (length b.phis + length b.body) (end_of b)) first
        ∙ append_assoc (in_each f.name b.name 0 ps) (in_each f.name b.name (length b.phis) ls) (in_line f.name b.name (length b.phis + length b.body) (end_of b))

    module _ (earlier taken : List Name) (among : Among earlier taken) (b : Block) (new : are_new taken (block_names b) ≡ true) where
      own_new : is_among b.name taken ≡ false
      own_new = not_true (is_among b.name taken) (both_left (not (is_among b.name taken)) (are_new (with_name taken b.name) (names_in (phi_registers b.phis ++ set_by b.body))) new)

      inside_new : (are_new (with_name taken b.name) (names_in (phi_registers b.phis)) && are_new (with_phis (with_name taken b.name) b.phis) (names_in (set_by b.body))) ≡ true
      inside_new =
          both_right (not (is_among b.name taken))
          (are_new (with_name taken b.name) (names_in (phi_registers b.phis)) && are_new (with_phis (with_name taken b.name) b.phis) (names_in (set_by b.body)))
          (sym (new_block taken b) ∙ new)

      phis_are : phi_kinds m labels types (edges_into f b.name) (with_name taken b.name) b.phis ≡ new_phi_kinds m labels types (edges_into f b.name) b.phis
      phis_are =
          phis_new (edges_into f b.name) (with_name taken b.name) b.phis
          (both_left (are_new (with_name taken b.name) (names_in (phi_registers b.phis))) (are_new (with_phis (with_name taken b.name) b.phis) (names_in (set_by b.body))) inside_new)

      lines_are : line_kinds m types (with_phis (with_name taken b.name) b.phis) b.body ≡ new_line_kinds m types b.body
      lines_are =
          lines_new (with_phis (with_name taken b.name) b.phis) b.body
          (both_right (are_new (with_name taken b.name) (names_in (phi_registers b.phis))) (are_new (with_phis (with_name taken b.name) b.phis) (names_in (set_by b.body))) inside_new)

      own_kind : block_kind (is_among b.name earlier) (is_among b.name taken) ≡ None
      own_kind = ap (λ d. block_kind d (is_among b.name taken)) (not_taken b.name taken earlier among own_new) ∙ ap (block_kind false) own_new

      block_new : in_block m f labels types entry earlier taken b ≡ in_new_block m f labels types entry b
      block_new =
          ap (λ own. in_kinds f.name b.name 0 own (phi_kinds m labels types (edges_into f b.name) (with_name taken b.name) b.phis
          ++ line_kinds m types (with_phis (with_name taken b.name) b.phis) b.body) (end_of b)) own_kind
          ∙ ap (λ ps. in_kinds f.name b.name 0 None (ps ++ line_kinds m types (with_phis (with_name taken b.name) b.phis) b.body) (end_of b)) phis_are
          ∙ ap (λ ls. in_kinds f.name b.name 0 None (new_phi_kinds m labels types (edges_into f b.name) b.phis ++ ls) (end_of b)) lines_are
          ∙ new_kinds b

    -- the names of earlier blocks stay among those that are taken
    among_more : (earlier taken : List Name) (b : Block) → Among earlier taken → Among (with_name earlier b.name) (with_block taken b)
    among_more earlier taken b among n there =
        let own = with_name taken b.name in
        let inside = with_phis own b.phis in
        all_kept (names_in (set_by b.body)) inside n
        (all_kept (names_in (phi_registers b.phis)) own n
        (elim (old_or_new b.name earlier n there) [
          | inl old ↦ kept b.name taken n (among n old)
          | inr is ↦ subst (λ x. Contains own x) is (put b.name taken)
        ]))

    blocks_new : (earlier taken : List Name) → Among earlier taken → (bs : List Block) → are_new taken (flat_map block_names bs) ≡ true
        → in_blocks m f labels types entry earlier taken bs ≡ in_new_blocks m f labels types entry bs
    blocks_new earlier taken among [] new = refl
    blocks_new earlier taken among (b ∷ bs) new =
        let all = sym (new_blocks taken b bs) ∙ new in
        let first = both_left (are_new taken (block_names b)) (are_new (with_block taken b) (flat_map block_names bs)) all in
        let rest = both_right (are_new taken (block_names b)) (are_new (with_block taken b) (flat_map block_names bs)) all in
        ap (λ zs. zs ++ in_blocks m f labels types entry (with_name earlier b.name) (with_block taken b) bs) (block_new earlier taken among b first)
        ∙ ap (λ zs. in_new_block m f labels types entry b ++ zs)
        (blocks_new (with_name earlier b.name) (with_block taken b) (among_more earlier taken b among) bs rest)

  -- what is wrong in a body of which all names are new
  pub body_new : (f : Function) (params : List Name) (bs : List Block) → are_new params (flat_map block_names bs) ≡ true
      → in_body m f labels types params bs ≡ in_new_body m f labels types bs
  body_new f params [] new = refl
  body_new f params (b ∷ bs) new = blocks_new f b.name [] params (λ n there. absurd (omega (arith, there.1))) (b ∷ bs) new

-- where all names of a function are new, those of its blocks are
pub behind_params : (f : Function) → are_new [] (names_of f) ≡ true → are_new (with_names [] (names_in (params_of f))) (flat_map block_names f.blocks) ≡ true
behind_params f new =
    let ps = names_in (params_of f) in
    both_right (are_new [] ps) (are_new (with_names [] ps) (flat_map block_names f.blocks)) (sym (new_joined [] ps (flat_map block_names f.blocks)) ∙ new)

-- as it is found of what is kept
pub body_is : (m n : Module) (labels ls : List Name) (types ts : Types) (f : Function) (params : List Name) (bs cs : List Block) → n ≡ m → ls ≡ labels → ts ≡ types → cs ≡ bs
    → are_new params (flat_map block_names cs) ≡ true → in_new_body n f ls ts cs ≡ in_body m f labels types params bs
body_is m n labels ls types ts f params bs cs beside own typed all new =
    sym (body_new n ls ts f params cs new)
    ∙ ap (λ (o : Module). in_body o f ls ts params cs) beside
    ∙ ap (λ (ns : List Name). in_body m f ns ts params cs) own
    ∙ ap (λ (us : Types). in_body m f labels us params cs) typed
    ∙ ap (λ (ds : List Block). in_body m f labels types params ds) all
