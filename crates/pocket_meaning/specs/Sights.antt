-- What a filter sees of a world, for a record and a request, and the value of a side of a comparison in it.
use Rattle.std.specs.Prelude.{List, Option, is_some}
use Rattle.std.specs.Option.{option_map_or}
use Rattle.pocket_types.specs.declared.names.Name.{Name}
use Rattle.pocket_types.specs.declared.records.Cell.{Cell}
use Rattle.pocket_types.specs.declared.records.Field.{Field}
use Rattle.pocket_types.specs.declared.records.Rec.{Rec}
use Rattle.pocket_types.specs.declared.requests.Ask.{Ask}
use Rattle.pocket_types.specs.declared.resolved.Leaf.{Leaf}
use Rattle.pocket_types.specs.declared.resolved.Leaf.TheVariants as leaf
use Rattle.pocket_types.specs.declared.resolved.Modifier.{Modifier}
use Rattle.pocket_types.specs.declared.resolved.Modifier.TheVariants as modifier
use Rattle.pocket_types.specs.declared.resolved.Prefix.{Prefix}
use Rattle.pocket_types.specs.declared.resolved.Root.{Root}
use Rattle.pocket_types.specs.declared.resolved.Step.{Step}
use Rattle.pocket_types.specs.declared.values.Value.{Value}
use Rattle.pocket_types.specs.declared.values.Value.TheVariants as value
use Rattle.pocket_types.specs.declared.world.World.{World}
use Rattle.pocket_ops.specs.Macros.{macro_value}
use Rattle.pocket_meaning.specs.Members.{Member}
use Rattle.pocket_meaning.specs.Related.{sent_field, sent_for, root_list, step_list}
use Rattle.pocket_meaning.specs.Values.{modified, member_value, item_value, context_text, method_text, pair_value}

-- all that a filter sees: the request, the sent fields, the list of each root, that of each step from a member, and the
-- value of each field of a member
pub record Sight : Type 0 where
  pub ask : Ask
  pub sent : Name → Option (Field × Cell)
  pub roots : Root → List Member
  pub steps : Step → Member → List Member
  pub values : Member → Name → Modifier → Value

-- what is seen of a world for a record and a request
abbrev pub sight : World → Ask → Name → Rec → Sight
sight w ask home rec = record {
  ask = ask;
  sent = sent_field w home ask.body;
  roots = root_list w ask home rec;
  steps = step_list w (sent_field w home ask.body);
  values = member_value;
}

-- a sent field: its cell under the modifier, or whether it was sent
abbrev pub sent_value : Sight → Name → Modifier → Value
sent_value s name modifier.Isset = value.Flag (is_some (sent_for s.ask.body name))
sent_value s name modifier = option_map_or (modified modifier) (s.sent name) value.Nothing

-- the value of a side, where each prefix has chosen a member
abbrev pub value_of : Sight → (Prefix → Member) → Leaf → Value
value_of s c (leaf.Fixed v) = v
value_of s c (leaf.Of prefix field modifier) = s.values (c prefix) field modifier
value_of s c (leaf.ItemOf prefix) = item_value (c prefix)
value_of s c leaf.Context = value.Text (context_text s.ask.context)
value_of s c leaf.Method = value.Text (method_text s.ask.method)
value_of s c (leaf.Header name modifier) = pair_value s.ask.headers name modifier
value_of s c (leaf.Query name modifier) = pair_value s.ask.query name modifier
value_of s c (leaf.Body field modifier) = sent_value s field modifier
value_of s c (leaf.Macro which) = macro_value which s.ask.moment
