use Rattle.std.proofs.Common.{◌≡◌, drop}
use Rattle.std.specs.Prelude.{filter_map}
use Rattle.pocket_resolve.specs.Fields.{auth_field, first}
use Rattle.pocket_resolve.proofs.fields.first_auth_field.Given as goal

abbrev pub invariant-loop-collection : goal.invariant-loop-collection
invariant-loop-collection l =
    first (filter_map (auth_field l.name) l.collections) ≡ first (filter_map (auth_field l.name) (drop l.collection-index l.collections))
