-- What proofs of other crates cite of this crate's proofs, and when. They import no other file of it.
-- == OneIndex: The index of a tile is that of one place alone.
-- an index that was found is the number, and below the limit
pub use Rattle.coll_data.proofs.OneIndex.{index_in_is}
-- two places with one index are the same place
pub use Rattle.coll_data.proofs.OneIndex.{one_index}
-- == TileIndex: Exactly the places of a collection have indices, and these are below the number of tiles.
-- the index of a row and a column is below the number of tiles
pub use Rattle.coll_data.proofs.TileIndex.{row_and_column}
-- a collection with a tile for each place has a tile exactly at its rows and columns
pub use Rattle.coll_data.proofs.TileIndex.{tile_exists}
