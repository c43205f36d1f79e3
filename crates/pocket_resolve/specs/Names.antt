-- Names with a meaning of their own: those that every record has, macros, parts of a request, back relations.
use Rattle.std.specs.Prelude.{ℕ, Bool, ◌||◌, ◌==◌, List, [], ◌∷◌, drop, codes, Option, Some, None, option_map, if◌then◌else◌}
use Rattle.std.specs.List.{starts_with}
use Rattle.std.specs.Str.{bytes_eq}
use Rattle.pocket_resolve.specs.declared.names.Requested.{Requested}
use Rattle.pocket_resolve.specs.declared.names.Requested.TheVariants.{Context, Method, Headers, Query, Body, Auth}
use Rattle.pocket_types.specs.declared.resolved.Macro.{Macro}
use Rattle.pocket_types.specs.declared.resolved.Macro.TheVariants as macro

-- every record has these, beside the fields of its collection
abbrev pub is_built_in : List ℕ → Bool
is_built_in name =
    bytes_eq name (codes "id") || bytes_eq name (codes "created") || bytes_eq name (codes "updated") || bytes_eq name (codes "collectionName")

-- a name `X_via_F` as X and F, cut at its first `_via_`
abbrev pub cut_at_via : List ℕ → Option (List ℕ × List ℕ)
cut_at_via [] = None
cut_at_via (c ∷ cs) =
    if starts_with ◌==◌ (c ∷ cs) (codes "_via_") then Some ([], drop 5 (c ∷ cs))
    else option_map (λ parts. (c ∷ parts.0, parts.1)) (cut_at_via cs)

-- what stands behind `@request.`
unfoldable pub requested_part : List ℕ → Option Requested
requested_part name =
    if bytes_eq name (codes "context") then Some Context
    else (if bytes_eq name (codes "method") then Some Method
    else (if bytes_eq name (codes "headers") then Some Headers
    else (if bytes_eq name (codes "query") then Some Query
    else (if bytes_eq name (codes "body") then Some Body
    else (if bytes_eq name (codes "auth") then Some Auth
    else None)))))

unfoldable pub macro_named : List ℕ → Option Macro
macro_named name =
    if bytes_eq name (codes "now") then Some macro.Now
    else (if bytes_eq name (codes "second") then Some macro.Second
    else (if bytes_eq name (codes "minute") then Some macro.Minute
    else (if bytes_eq name (codes "hour") then Some macro.Hour
    else (if bytes_eq name (codes "day") then Some macro.Day
    else (if bytes_eq name (codes "month") then Some macro.Month
    else (if bytes_eq name (codes "year") then Some macro.Year
    else (if bytes_eq name (codes "weekday") then Some macro.Weekday
    else (if bytes_eq name (codes "yesterday") then Some macro.Yesterday
    else (if bytes_eq name (codes "tomorrow") then Some macro.Tomorrow
    else (if bytes_eq name (codes "todayStart") then Some macro.TodayStart
    else (if bytes_eq name (codes "todayEnd") then Some macro.TodayEnd
    else (if bytes_eq name (codes "monthStart") then Some macro.MonthStart
    else (if bytes_eq name (codes "monthEnd") then Some macro.MonthEnd
    else (if bytes_eq name (codes "yearStart") then Some macro.YearStart
    else (if bytes_eq name (codes "yearEnd") then Some macro.YearEnd
    else None)))))))))))))))
