-- Paths, and the trees of them.
use Rattle.std.proofs.Common.{◌≡◌, ◌≢◌, ℕ, zero, suc, ◌-◌, List, [], ◌∷◌, ◌++◌, map, refl, sym, ap, ◌∙◌, Bor, arith}
use Rattle.std.specs.Prelude.{filter_map}
use Rattle.std.specs.List.{cons_option}
use Rattle.std.proofs.lemmas.List.Elements.{filter_map-append}
use Rattle.pocket_expand.specs.declared.names.Branch.{Branch}
use Rattle.pocket_expand.specs.Names.{NamePath, branch_of, grouped, tree_of}

-- what was lent
pub pieces_now : {X : Type 0} (f : List ℕ → X) (pieces : List (Bor (List ℕ))) → map (λ s. f s.now) pieces ≡ map f (map (λ s. s.now) pieces)
pieces_now f [] = refl
pieces_now f (s ∷ pieces) = ap (λ rest. f s.now ∷ rest) (pieces_now f pieces)

-- one level of a tree
pub tree_level : (depth : ℕ) (paths : List NamePath) → depth ≢ 0 → tree_of depth paths ≡ filter_map (branch_of (tree_of (depth - 1))) (grouped paths)
tree_level zero paths h = absurd (h refl)
tree_level (suc depth) paths h =
    let same : depth ≡ suc depth - 1 = omega arith in
    ap (λ d. filter_map (branch_of (tree_of d)) (grouped paths)) same

-- one branch more
pub branch_more : (tree : List NamePath → List Branch) (groups : List (List ℕ × List NamePath)) (name : List ℕ) (behind : List NamePath) (below old new : List Branch) → below ≡ tree behind
    → new ≡ old ++ cons_option (branch_of (λ x. below) (name, [])) [] → old ≡ filter_map (branch_of tree) groups → new ≡ filter_map (branch_of tree) (groups ++ (name, behind) ∷ [])
branch_more tree groups name behind below old new same is so_far =
    is ∙ ap (λ b. old ++ cons_option (branch_of (λ x. b) (name, [])) []) same ∙ ap (λ l. l ++ cons_option (branch_of tree (name, behind)) []) so_far
    ∙ sym (filter_map-append (branch_of tree) groups ((name, behind) ∷ []))
