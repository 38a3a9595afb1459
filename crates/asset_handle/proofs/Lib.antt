mod AsBox
mod ListedLemmas
mod OpenedLemmas
