-- What is known of each network.
use Rattle.std.specs.Prelude.{◌≡◌, ℕ, ◌<◌, ◌≤◌, List, [], length, slice_index, slice_index_or}
use Rattle.std.proofs.lemmas.List.{get_or-map}
use Rattle.std.proofs.lemmas.List.Elements.{All-get_or}
use Rattle.mk_net.specs.Network.{Variable, IsNetwork, IsRow, sizes}
use Rattle.mk_net.specs.Named.{variable_at, nobody}

pub size_at : (network : List Variable) (k : ℕ) → k < length network →
    slice_index (sizes network) k ≡ length (variable_at network k).values
size_at network k h = get_or-map (λ (v : Variable). length v.values) network k nobody 0 h

pub few_values : (network : List Variable) (k : ℕ) → IsNetwork network → k < length network → slice_index (sizes network) k ≤ 16
few_values network k is h = rw (size_at network k h) ((is.each k nobody h).few_values)

-- each row of a variable of a network is one
pub row_at : (network : List Variable) (k row : ℕ) → IsNetwork network → k < length network → row < length (variable_at network k).rows →
    IsRow (slice_index (sizes network) k) (slice_index_or (variable_at network k).rows row [])
row_at network k row is h within =
    rw (size_at network k h) (All-get_or (IsRow (length (variable_at network k).values)) (variable_at network k).rows row [] within (is.each k nobody h).rows_fit)

pub two_values : (network : List Variable) (k : ℕ) → IsNetwork network → k < length network → 2 ≤ slice_index (sizes network) k
two_values network k is h = rw (size_at network k h) ((is.each k nobody h).two_values)
