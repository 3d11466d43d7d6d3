mod FirstRow
mod OnlyBatch
