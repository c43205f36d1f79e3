-- Reading a list or a map, an item at a time.
use Rattle.std.proofs.Common.{◌≡◌, ℕ, List, [], ◌∷◌, ◌++◌, Option, Some, None, option_map, append_assoc, refl, sym, ap}
use Rattle.json.specs.Json as json
use Rattle.pocket_types.specs.declared.json.Jv.{Jv}
use Rattle.pocket_types.specs.Maps.{put}
use Rattle.pocket_json.specs.Reading.{tree_of, trees_of, entries_of}

one_more : (vs : List Jv) (v : Jv) (r : Option (List Jv)) → option_map (λ more. vs ++ more) (option_map (λ more. v ∷ more) r) ≡ option_map (λ more. (vs ++ v ∷ []) ++ more) r
one_more vs v None = refl
one_more vs v (Some more) = ap Some (sym (append_assoc vs (v ∷ []) more))

pub item_read : (vs : List Jv) (v : Jv) (j : json.Json) (js : json.Items) → tree_of j ≡ Some v
    → option_map (λ more. vs ++ more) (trees_of (json.item j js)) ≡ option_map (λ more. (vs ++ v ∷ []) ++ more) (trees_of js)
item_read vs v j js e = rw e (one_more vs v (trees_of js))

pub item_refused : (j : json.Json) (js : json.Items) → tree_of j ≡ None → trees_of (json.item j js) ≡ None
item_refused j js e = rw e

pub member_read : (key : List ℕ) (v : Jv) (j : json.Json) (ms : json.Members) (old : List (List ℕ × Jv)) → tree_of j ≡ Some v
    → entries_of (json.member key j ms) old ≡ entries_of ms (put key v old)
member_read key v j ms old e = rw e

pub member_refused : (key : List ℕ) (j : json.Json) (ms : json.Members) (old : List (List ℕ × Jv)) → tree_of j ≡ None → entries_of (json.member key j ms) old ≡ None
member_refused key j ms old e = rw e
