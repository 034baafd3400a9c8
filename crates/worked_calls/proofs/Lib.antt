mod ZeroPages
mod FewBytes
