-- What each call makes of the segments of a graph.
use Rattle.std.specs.Prelude.{ℕ, ◌+◌, ◌-◌, ◌==◌, Bool, if◌then◌else◌, List, [], ◌∷◌, ◌++◌, length, map, slice_set, slice_index}
use Rattle.std.specs.List.{zip, list_any, range_with_len, flat_map}
use Rattle.es_fork.specs.declared.segment.Segment.{Segment}
use Rattle.es_fork.specs.declared.segment.Label.{Label}
use Rattle.es_fork.specs.declared.fork.Fork.{Fork}
use Rattle.es_fork.specs.Graphs.{segment_at}

abbrev pub fresh : Bool → Segment
fresh reachable = record { labels = []; next = []; reachable = reachable }

-- the segments, and after them a new one for each flag
unfoldable pub grown : List Segment → List Bool → List Segment
grown segments flags = segments ++ map fresh flags

-- the segments with the label at the end of this one's
unfoldable pub labelled_at : List Segment → ℕ → Label → List Segment
labelled_at segments at label =
    let held = segment_at segments at in
    slice_set segments (at - 1) (record held { labels = held.labels ++ label ∷ [] })

abbrev pub labelled : List Segment → List ℕ → Label → List Segment
labelled segments [] label = segments
labelled segments (head ∷ heads) label = labelled (labelled_at segments head label) heads label

abbrev pub has_edge : List Segment → ℕ → ℕ → Bool
has_edge segments from to = list_any (λ next. next == to) (segment_at segments from).next

-- the segments with one more edge at the end of this one's
unfoldable pub edge_put : List Segment → ℕ → ℕ → List Segment
edge_put segments from to =
    let held = segment_at segments from in
    slice_set segments (from - 1) (record held { next = held.next ++ to ∷ [] })

-- the same, but for an edge that is there already
unfoldable pub edged : List Segment → ℕ → ℕ → List Segment
edged segments from to = if has_edge segments from to then segments else edge_put segments from to

abbrev pub connected : List Segment → List (ℕ × ℕ) → List Segment
connected segments [] = segments
connected segments (edge ∷ edges) = connected (edged segments edge.0 edge.1) edges

-- the numbers of so many new segments
abbrev pub new_ids : List Segment → ℕ → List ℕ
new_ids segments count = range_with_len (length segments + 1) count

-- which of the heads are reachable
abbrev pub flags : List Segment → List ℕ → List Bool
flags segments heads = map (λ head. (segment_at segments head).reachable) heads

-- the segments with a new one after each head
abbrev pub after : List Segment → List ℕ → List Segment
after segments heads = connected (grown segments (flags segments heads)) (zip heads (new_ids segments (length heads)))

-- how many heads each of the parts has
abbrev pub width : List Fork → ℕ
width [] = 0
width (part ∷ parts) = length part.heads

-- whether one of the heads at this index is reachable
abbrev pub joins_reachable : List Segment → List Fork → ℕ → Bool
joins_reachable segments parts index = list_any (λ part. (segment_at segments (slice_index part.heads index)).reachable) parts

-- the edges from the heads of each part to the segments, in order
abbrev pub edges_to : List Fork → List ℕ → List (ℕ × ℕ)
edges_to parts ids = flat_map (λ part. zip part.heads ids) parts

-- the segments with a new one for each index of heads, after the heads of that index in all parts
abbrev pub joined : List Segment → List Fork → List Segment
joined segments parts =
    connected
    (grown segments (map (joins_reachable segments parts) (range_with_len 0 (width parts))))
    (edges_to parts (new_ids segments (width parts)))

-- the heads of all parts, side by side
abbrev pub all_heads : List Fork → List ℕ
all_heads parts = flat_map (λ part. part.heads) parts
